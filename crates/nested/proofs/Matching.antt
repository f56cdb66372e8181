-- Words put one behind the other: how they are read, and which calls and returns of them match.
use Rattle.std.proofs.Common.{◌≡◌, ℕ, zero, suc, ◌+◌, ◌-◌, ◌%◌, cond, eqb, List, [], ◌∷◌, ◌++◌, drop, sym, refl, ap, ◌∙◌, add-one, arith}
use Rattle.std.proofs.lemmas.List.{drop_all, drop-drop}
use Rattle.std.proofs.lemmas.Bool.Decides.{nat_tests}
use Rattle.nested.specs.Automata.{Automaton}
use Rattle.nested.specs.Reading.{Config, WellMatched, pending_returns, read_from, read_letter, read_return, unclosed_calls}
use Rattle.nested.specs.declared.letter.Letter.{Letter}
use Rattle.nested.specs.declared.letter.Letter.TheVariants.{Call, Return, Internal}
use Rattle.nested.specs.declared.mark.Mark.{Mark}

-- The pending returns of the second word close the unclosed calls of the first, as far as there are any of both.
pending_append : (x y : List Letter) → pending_returns (x ++ y) ≡ pending_returns x + (pending_returns y - unclosed_calls x)
unfolding pending_returns unclosed_calls
pending_append [] y = omega arith
pending_append (Call a ∷ x) y = let more = pending_append x y in grind (arith, nat_tests)
pending_append (Return b ∷ x) y = let more = pending_append x y in omega arith
pending_append (Internal a ∷ x) y = pending_append x y

unclosed_append : (x y : List Letter) → unclosed_calls (x ++ y) ≡ (unclosed_calls x - pending_returns y) + unclosed_calls y
unfolding pending_returns unclosed_calls
unclosed_append [] y = omega arith
unclosed_append (Call a ∷ x) y = let more = unclosed_append x y in let returns = pending_append x y in grind (arith, nat_tests)
unclosed_append (Return b ∷ x) y = unclosed_append x y
unclosed_append (Internal a ∷ x) y = unclosed_append x y

pub matched_append : (x y : List Letter) → WellMatched x → WellMatched y → WellMatched (x ++ y)
matched_append x y h k = let p = pending_append x y in let u = unclosed_append x y in omega arith

-- a call, a well-matched word and a return
pub matched_around : (v : List Letter) (a b : ℕ) → WellMatched v → WellMatched (Call a ∷ (v ++ Return b ∷ []))
unfolding pending_returns unclosed_calls
matched_around v a b h =
    let p = pending_append v (Return b ∷ []) in
    let u = unclosed_append v (Return b ∷ []) in
    grind (arith, nat_tests)

module _ {X : Type 0} where
  -- with x left out: it is one of the n that are dropped, or comes right behind the k others
  drop_under : (n k : ℕ) (x : X) (xs ys : List X) → drop k ys ≡ drop n (x ∷ xs) → drop (cond (eqb n 0) 1 0 + k) ys ≡ drop (n - 1) xs
  drop_under zero k x xs ys e = ap (λ j. drop j ys) (omega arith) ∙ sym (drop-drop 1 k ys) ∙ ap (drop 1) e
  drop_under (suc n) k x xs ys e = ap (λ j. drop j ys) (grind (arith, nat_tests)) ∙ e ∙ ap (λ j. drop j xs) (omega arith)

module _ {S : Type 0} (A : Automaton S) where
  pub read_append : (c : Config S) (u v : List Letter) → read_from A c (u ++ v) ≡ read_from A (read_from A c u) v
  unfolding read_from
  read_append c [] v = refl
  read_append c (l ∷ u) v = read_append (read_letter A c l) u v

  -- Of the marks that a word finds, its pending returns take away the latest; the marks of its unclosed calls come before the others.
  marks_under : (s : S) (ms : List (Mark S)) (w : List Letter) → drop (unclosed_calls w) (read_from A (record { state = s; marks = ms }) w).marks ≡ drop (pending_returns w) ms
  unfolding read_from pending_returns unclosed_calls
  marks_under s ms [] = refl
  marks_under s ms (Call a ∷ w) = drop_under (pending_returns w) (unclosed_calls w) _ ms _ (marks_under (A.call s (a % 16)) (record { state = s; name = a } ∷ ms) w)
  marks_under s [] (Return b ∷ w) = rw add-one (marks_under (A.pending s (b % 16)) [] w ∙ drop_all (pending_returns w) [] (omega arith))
  marks_under s (m ∷ ms) (Return b ∷ w) = rw add-one (marks_under (A.ret s m.state (m.name % 16) (b % 16)) ms w)
  marks_under s ms (Internal a ∷ w) = marks_under (A.internal s (a % 16)) ms w

  -- a well-matched word leaves the marks as it finds them
  marks_kept : (s : S) (ms : List (Mark S)) (w : List Letter) → WellMatched w → (read_from A (record { state = s; marks = ms }) w).marks ≡ ms
  marks_kept s ms w h = rw (h.0, h.1) at (marks_under s ms w)

  -- a call, a well-matched word and the return that closes the call, with a word behind them
  pub read_around : (c : Config S) (v z : List Letter) (a b : ℕ) → WellMatched v → read_from A c (Call a ∷ (v ++ Return b ∷ z)) ≡ read_from A (record { state = A.ret (read_from A (read_letter A c (Call a)) v).state c.state (a % 16) (b % 16); marks = c.marks }) z
  unfolding read_from
  read_around c v z a b h =
      let d = read_from A (read_letter A c (Call a)) v in
      read_append (read_letter A c (Call a)) v (Return b ∷ z) ∙ ap (λ ms. read_from A (read_return A d.state ms (b % 16)) z) (marks_kept _ _ v h)
