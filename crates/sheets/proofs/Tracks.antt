-- Which configurations of runs a configuration of the machine stands for.
use Rattle.std.proofs.Common.{◌≡◌, ℕ, ◌<◌, ◌≤◌, Bool, true, ◌&&◌, eqb, ltb, ◌↔◌, List, ◌∷◌, sym, refl, ◌∙◌, subst, arith}
use Rattle.std.specs.List.{ContainsAt as Has}
use Rattle.std.proofs.lemmas.Bool.{and_from, and_parts, eq-eqb, eqb-true, lt-ltb}
use Rattle.sheets.specs.Masks.{MasksAreSets, pair_in, pairs_where, some_below, some_state, state_in}
use Rattle.sheets.specs.Steps.{Relation, identity, onward}
use Rattle.sheets.specs.declared.moves.Move.{Move}
use Rattle.sheets.specs.declared.moves.Move.TheVariants.{Call}
use Rattle.sheets.specs.declared.state.SheetState.{SheetState}
use Rattle.sheets.proofs.Some.{some_at, some_from}

-- Configurations of runs: a state and a stack of marks.
abbrev pub Configs : Type 1
Configs = ℕ → List ℕ → Type 0

-- The configurations of runs that a machine in the state s stands for, if those of E are possible behind the latest open call, or at the
-- start of the word where none is open. Bits stand for states only below 8.
pub record Tracked (E : Configs) (s : SheetState) (q : ℕ) (stack : List ℕ) : Type 0 where
  pub entry : ℕ
  pub entered : E entry stack
  pub pair : pair_in s.pairs entry q ≡ true
  pub entry_small : entry < 8
  pub small : q < 8

-- the set of states in s has the states of these
abbrev pub Honest : Configs → SheetState → Type 0
Honest E s = (q : ℕ) → q < 8 → (state_in s.states q ≡ true) ↔ ((stack : List ℕ) × Tracked E s q stack)

-- what the call moves with the name a make of the configurations T
pub record Called (ms : List Move) (T : Configs) (a q : ℕ) (stack : List ℕ) : Type 0 where
  pub before : ℕ
  pub mark : ℕ
  pub rest : List ℕ
  pub pushed : stack ≡ mark ∷ rest
  pub tracked : T before rest
  pub moves : Has ms (Call before a q mark)

-- a number that passes both tests
pub both_from : (k : ℕ) (f g : ℕ → Bool) → some_below k (λ i. f i && g i) ≡ true → (i : ℕ) × (i < k) × (f i ≡ true) × (g i ≡ true)
both_from k f g h = let (i, lt, is) = some_from k (λ i. f i && g i) h in let (l, r) = and_parts (f i) (g i) is in (i, lt, l, r)

pub both_at : (k : ℕ) (f g : ℕ → Bool) (i : ℕ) → i < k → f i ≡ true → g i ≡ true → some_below k (λ i. f i && g i) ≡ true
both_at k f g i lt l r = some_at k (λ i. f i && g i) i lt (and_from (f i) (g i) l r)

module _ (sets : MasksAreSets) where
  module _ (E : Configs) (s : SheetState) (t : Relation) where
    -- the pairs and the states after a step by t
    abbrev pairs_onward : Relation
    pairs_onward p q' = some_state (λ q. pair_in s.pairs p q && t q q')

    abbrev states_onward : ℕ → Bool
    states_onward q' = some_state (λ q. state_in s.states q && t q q')

    pub onward_into : (q q' : ℕ) (stack : List ℕ) → q' < 8 → Tracked E s q stack → t q q' ≡ true → Tracked E (onward s t) q' stack
    onward_into q q' stack lt h step = record {
      entry = h.entry;
      entered = h.entered;
      pair = sets.pairs pairs_onward h.entry q' h.entry_small lt ∙ both_at 8 (pair_in s.pairs h.entry) (λ q. t q q') q h.small h.pair step;
      entry_small = h.entry_small;
      small = lt;
    }

    pub onward_back : (q' : ℕ) (stack : List ℕ) → Tracked E (onward s t) q' stack → (q : ℕ) × Tracked E s q stack × (t q q' ≡ true)
    onward_back q' stack h =
        let some = sym (sets.pairs pairs_onward h.entry q' h.entry_small h.small) ∙ h.pair in
        let (q, lt, pair, step) = both_from 8 (pair_in s.pairs h.entry) (λ q. t q q') some in
        (q, record { entry = h.entry; entered = h.entered; pair = pair; entry_small = h.entry_small; small = lt }, step)

    pub onward_honest : Honest E s → Honest E (onward s t)
    onward_honest honest q' lt = (
      λ h.
          let some = sym (sets.states states_onward q' lt) ∙ h in
          let (q, small, is, step) = both_from 8 (state_in s.states) (λ q. t q q') some in
          let (stack, tracked) = (honest q small).0 is in
          (stack, onward_into q q' stack lt tracked step),
      λ h.
          let (q, tracked, step) = onward_back q' h.0 h.1 in
          sets.states states_onward q' lt ∙ both_at 8 (state_in s.states) (λ q. t q q') q tracked.small ((honest q tracked.small).1 (h.0, tracked)) step,
    )

  -- A state whose pairs are the identity on the states below n stands for what it is entered by.
  module _ (E : Configs) (n m : ℕ) (few : n ≤ 8) where
    abbrev fresh : SheetState
    fresh = record { pairs = pairs_where (identity n); states = m }

    pub fresh_into : (q : ℕ) (stack : List ℕ) → q < n → E q stack → Tracked E fresh q stack
    fresh_into q stack lt h =
        let small : q < 8 = omega arith in
        record {
          entry = q;
          entered = h;
          pair = sets.pairs (identity n) q q small small ∙ and_from (ltb q n) (eqb q q) (lt-ltb q n lt) (eq-eqb q q refl);
          entry_small = small;
          small = small;
        }

    pub fresh_back : (q : ℕ) (stack : List ℕ) → Tracked E fresh q stack → E q stack
    fresh_back q stack h =
        let same = (and_parts (ltb h.entry n) (eqb h.entry q) (sym (sets.pairs (identity n) h.entry q h.entry_small h.small) ∙ h.pair)).1 in
        subst (λ p. E p stack) (eqb-true h.entry q same) h.entered
