-- Codes that stand at the front of a buffer.
use Rattle.std.proofs.Common.{◌≡◌, ℕ, ◌+◌, ◌<◌, ◌≤◌, List, [], ◌∷◌, ◌++◌, map, length, take, drop, set, sym, refl, ap, ◌∙◌, ap₂, add-one, arith}
use borrow.Rule.Slice.PartMut.{mid_of, put_mid}
use Rattle.std.proofs.lemmas.List.{append_assoc, drop-append-le, drop_at, drop-drop, length-append, length-map, map-append, set_split, take_at, take-append-drop}
use Rattle.nested.specs.Letters.{code_of}
use Rattle.nested.specs.declared.letter.Letter.{Letter}
use Rattle.items.specs.Writing.{Stands}

-- what stands behind a word
module _ (was : List ℕ) (v : List Letter) (now : List ℕ) (n : ℕ) (first : Stands was v now n) where
  front : take n now ≡ map code_of v
  front = ap (take n) first.buffer ∙ take_at (map code_of v) (drop n was) n (length-map v code_of ∙ sym first.count)

  rest : drop n now ≡ drop n was
  rest = ap (drop n) first.buffer ∙ drop_at (map code_of v) (drop n was) n (length-map v code_of ∙ sym first.count)

  -- n + m places are written, where a word is written behind the first
  joined : (w : List Letter) (m : ℕ) → m ≡ length w → (next : List ℕ) → next ≡ take n now ++ (map code_of w ++ drop m (drop n now)) → Stands was (v ++ w) next (n + m)
  joined w m count next is = record {
    count = omega (arith, first.count, length-append v w);
    buffer =
        is ∙ ap₂ (λ a b. a ++ (map code_of w ++ drop m b)) front rest ∙ ap (λ b. map code_of v ++ (map code_of w ++ b)) (drop-drop m n was)
        ∙ sym (append_assoc (map code_of v) (map code_of w) (drop (n + m) was)) ∙ ap (λ xs. xs ++ drop (n + m) was) (sym (map-append code_of v w));
  }

  -- one letter more
  pub put_letter : (l : Letter) (code : ℕ) → n < length now → code ≡ code_of l → Stands was (v ++ l ∷ []) (set now n code) (n + 1)
  put_letter l code room is = joined (l ∷ []) 1 refl (set now n code)
      (set_split now n code room ∙ ap₂ (λ c b. take n now ++ c ∷ b) is (ap (λ i. drop i now) (sym (add-one n)) ∙ sym (drop-drop 1 n now)))

  -- a word, written to what is left of the buffer
  pub put_behind : (k : ℕ) (w : List Letter) (part : List ℕ) (m : ℕ) → Stands (mid_of n k now) w part m → m ≤ length (mid_of n k now) → Stands was (v ++ w) (put_mid n k now part) (n + m)
  put_behind k w part m second room = joined w m second.count (put_mid n k now part) (ap (λ xs. take n now ++ xs)
      (ap (λ xs. xs ++ drop k (drop n now)) second.buffer
      ∙ append_assoc (map code_of w) (drop m (mid_of n k now)) (drop k (drop n now))
      ∙ ap (λ xs. map code_of w ++ xs) (sym (drop-append-le m (mid_of n k now) (drop k (drop n now)) room) ∙ ap (drop m) (take-append-drop k (drop n now)))))
