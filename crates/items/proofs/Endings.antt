-- How the words of items end.
use Rattle.std.proofs.Common.{◌≡◌, ℕ, ◌+◌, Bool, true, false, cond, ◌&&◌, ltb, List, [], ◌∷◌, ◌++◌, length, Option, Some, None, sym, refl, ap, ◌∙◌, subst, arith}
use Rattle.std.proofs.lemmas.List.{append_assoc, append-nil, length-append, length_push}
use Rattle.std.proofs.lemmas.Bool.{and_parts, ltb-true}
use Rattle.nested.specs.declared.letter.Letter.{Letter}
use Rattle.nested.specs.declared.letter.Letter.TheVariants.{Call, Return}
use Rattle.items.proofs.Unwinding.{word_parts_law}
use Rattle.items.specs.Words.{Parts, how_at, no_parts, parts_by, word_parts}
use Rattle.items.specs.Endings.{Ends, ending, part_of}
use Rattle.items.specs.declared.making.How.{How}
use Rattle.items.specs.declared.making.How.TheVariants.{Begun, Stepped, Entered, Matched}
use Rattle.items.specs.declared.making.Making.{Making}
use Rattle.items.specs.declared.words.Ending.{Ending}
use Rattle.items.specs.declared.words.Ending.TheVariants.{One, Pair}
use Rattle.items.specs.declared.words.Part.{Part}
use Rattle.items.specs.declared.words.Part.TheVariants.{Whole, Local}

part_none : (p : Part) → part_of p no_parts ≡ []
part_none Whole = refl
part_none Local = refl

-- letters behind the local word are letters behind either part
part_behind : (p : Part) (w : Parts) (xs : List Letter) → part_of p (record { before = w.before; local = w.local ++ xs }) ≡ part_of p w ++ xs
part_behind Whole w xs = sym (append_assoc w.before w.local xs)
part_behind Local w xs = refl

entered_local : (t : Bool) (w : List Letter) → (cond t (record { before = w; local = [] }) no_parts).local ≡ []
entered_local true w = refl
entered_local false w = refl

length_pair : (xs ys : List Letter) (a b : Letter) → length (xs ++ a ∷ (ys ++ b ∷ [])) ≡ length xs + length ys + 2
length_pair xs ys a b = let inner = length_push ys b in let all = length-append xs (a ∷ (ys ++ b ∷ [])) in omega arith

module _ (of : ℕ → Parts) (p : Part) (n : ℕ) where
  ends_nothing : of n ≡ no_parts → Ends of p n None
  ends_nothing is = ap (part_of p) is ∙ part_none p

  -- a making counts if it passes its test
  by_test : (t : Bool) (w : Parts) (e : Option Ending) → of n ≡ cond t w no_parts → (t ≡ true → of n ≡ w → Ends of p n e) → Ends of p n (cond t e None)
  by_test true w e is ends = ends refl is
  by_test false w e is ends = ends_nothing is

  ends_one : (i : ℕ) (l : Letter) → ltb i n ≡ true → part_of p (of n) ≡ part_of p (of i) ++ l ∷ [] → Ends of p n (Some (One i l))
  ends_one i l below is = (ltb-true i n below, is, ap length is ∙ length_push (part_of p (of i)) l)

  ends_pair : (i j a b : ℕ) → (ltb i n && ltb j n) ≡ true → part_of p (of n) ≡ part_of p (of i) ++ Call a ∷ ((of j).local ++ Return b ∷ []) → Ends of p n (Some (Pair i j a b))
  ends_pair i j a b below is =
      let both = and_parts (ltb i n) (ltb j n) below in
      (ltb-true i n both.0, ltb-true j n both.1, is, ap length is ∙ length_pair (part_of p (of i)) (of j).local (Call a) (Return b))

ends_by : (of : ℕ → Parts) (p : Part) (n : ℕ) (how : How) → of n ≡ parts_by of n how → Ends of p n (ending p n how)
ends_by of p n Begun is = ends_nothing of p n is
ends_by of p n (Stepped i l) is =
    by_test of p n (ltb i n) _ (Some (One i l)) is (λ t e. ends_one of p n i l t (ap (part_of p) e ∙ part_behind p (of i) (l ∷ [])))
ends_by of Whole n (Entered i a) is =
    by_test of Whole n (ltb i n) _ (Some (One i (Call a))) is (λ t e. ends_one of Whole n i (Call a) t (ap (part_of Whole) e ∙ append-nil _))
ends_by of Local n (Entered i a) is = ap (part_of Local) is ∙ entered_local (ltb i n) _
ends_by of p n (Matched i j a b) is =
    by_test of p n (ltb i n && ltb j n) _ (Some (Pair i j a b)) is (λ t e. ends_pair of p n i j a b t (ap (part_of p) e ∙ part_behind p (of i) (Call a ∷ ((of j).local ++ Return b ∷ []))))

pub ends : (makings : List Making) (p : Part) (n : ℕ) (how : How) (e : Option Ending) → how ≡ how_at makings n → e ≡ ending p n how → Ends (word_parts makings) p n e
ends makings p n how e is_how is_end =
    subst (Ends (word_parts makings) p n) (sym is_end) (ends_by (word_parts makings) p n how (word_parts_law makings n ∙ ap (parts_by (word_parts makings) n) (sym is_how)))
