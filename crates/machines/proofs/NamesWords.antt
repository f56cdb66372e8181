-- What the names machine accepts.
use Rattle.std.proofs.Common.{◌≡◌, ℕ, ◌%◌, true, false, eqb, List, [], ◌∷◌, ◌++◌, refl, ap, ⊎_elim, append_assoc}
use Rattle.std.proofs.lemmas.Bool.{both_ways, cases_eq, cond_both, cond-false, cond-true, eq-eqb, ne_eqb}
use Rattle.nested.specs.Reading.{WellMatched, accepted, pending_returns, read, read_from, unclosed_calls}
use Rattle.nested.specs.declared.letter.Letter.{Letter}
use Rattle.nested.specs.declared.letter.Letter.TheVariants.{Call, Return, Internal}
use Rattle.nested.specs.declared.mark.Mark.{Mark}
use Rattle.nested.proofs.Matching.{matched_append, matched_around, read_append, read_around}
use Rattle.machines.specs.Names.{AcceptsAgreeing, NamesAgree, is_ok, names}
use Rattle.machines.specs.declared.names.NamesState.{NamesState}
use Rattle.machines.specs.declared.names.NamesState.TheVariants.{Ok, Broken}

stays_broken : (ms : List (Mark NamesState)) (w : List Letter) → (read_from names (record { state = Broken; marks = ms }) w).state ≡ Broken
unfolding read_from
stays_broken ms [] = refl
stays_broken ms (Call a ∷ w) = stays_broken _ w
stays_broken [] (Return b ∷ w) = stays_broken [] w
stays_broken (m ∷ ms) (Return b ∷ w) =
    let more = stays_broken ms w in
    cond_both (eqb (m.name % 16) (b % 16)) Broken Broken (λ s. (read_from names (record { state = s; marks = ms }) w).state ≡ Broken) (λ _. more) (λ _. more)
stays_broken ms (Internal a ∷ w) = stays_broken ms w

-- a return whose name is not that of its call
breaks : (u v z : List Letter) (a b : ℕ) → WellMatched v → (a % 16 ≡ b % 16 → ⊥) → (read names (u ++ Call a ∷ (v ++ Return b ∷ z))).state ≡ Broken
breaks u v z a b h differ = rw (read_append names _ u _, read_around names _ v z a b h, cond-false _ _ Broken (ne_eqb _ _ differ)) (stays_broken _ z)

-- The marks are of calls of the word that stand open after it, the latest first, and behind each of these the word is well matched up to the next.
abbrev Opened : List (Mark NamesState) → List Letter → Type 0
Opened [] u = Unit
Opened (m ∷ ms) u = (u' v : List Letter) × (u ≡ u' ++ Call m.name ∷ v) × WellMatched v × Opened ms u'

opened_more : (ms : List (Mark NamesState)) (u x : List Letter) → Opened ms u → WellMatched x → Opened ms (u ++ x)
opened_more [] u x o h = tt
opened_more (m ∷ ms) u x o h =
    let (u', v, split, matched, under) = o in
    (u', v ++ x, rw split (append_assoc u' _ x), matched_append v x matched h, under)

-- the machine stays ok if the names agree in what it has read and what it reads
stays_ok : (ms : List (Mark NamesState)) (u w : List Letter) → Opened ms u → NamesAgree (u ++ w) → (read_from names (record { state = Ok; marks = ms }) w).state ≡ Ok
unfolding read_from pending_returns unclosed_calls
stays_ok ms u [] o agree = refl
stays_ok ms u (Call a ∷ w) o agree = stays_ok (record { state = Ok; name = a } ∷ ms) (u ++ Call a ∷ []) w (u, [], refl, (refl, refl), o) (rw append_assoc agree)
stays_ok [] u (Return b ∷ w) o agree = stays_ok [] (u ++ Return b ∷ []) w tt (rw append_assoc agree)
stays_ok (m ∷ ms) u (Return b ∷ w) o agree =
    let (u', v, split, matched, under) = o in
    let whole : u ++ Return b ∷ w ≡ u' ++ Call m.name ∷ (v ++ Return b ∷ w) = rw split (append_assoc u' _ _) in
    let same = agree u' v w m.name b whole matched in
    let x = Call m.name ∷ (v ++ Return b ∷ []) in
    rw (cond-true _ Ok Broken (eq-eqb _ _ same), read_from) (stays_ok ms (u' ++ x) w (opened_more ms u' x under (matched_around v m.name b matched)) (simp append_assoc (rw whole at agree)))
stays_ok ms u (Internal a ∷ w) o agree = stays_ok ms (u ++ Internal a ∷ []) w (opened_more ms u (Internal a ∷ []) o (refl, refl)) (rw append_assoc agree)

agreeing : (w : List Letter) → accepted names w ≡ true → NamesAgree w
agreeing w e u v z a b split h =
    let broken : (a % 16 ≡ b % 16 → ⊥) → accepted names w ≡ false = λ differ. rw split (ap is_ok (breaks u v z a b h differ)) in
    ⊎_elim (λ same. same) (λ differ. absurd (both_ways (accepted names w) (broken differ) e)) (cases_eq (a % 16) (b % 16))

pub accepts_agreeing : AcceptsAgreeing
accepts_agreeing w = (agreeing w, λ agree. ap is_ok (stays_ok [] [] w tt agree))
