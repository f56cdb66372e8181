-- Fields in order, by the number of each field in its row.
use Rattle.std.proofs.Common.{◌≡◌, ℕ, ◌+◌, ◌<◌, List, [], ◌∷◌, ◌++◌, length, get_or, take, drop, None, sym, refl, ap, ◌∙◌, arith}
use Rattle.std.proofs.lemmas.List.{append_assoc, drop_more, get_or_at, length-append, take-append-drop, take_at}
use Rattle.fields.specs.Fields.{Piece, file_of, written}
use Rattle.fields.specs.Outcomes.{Format, InOrder}

pub file_of_append : (fs gs : List Piece) → file_of (fs ++ gs) ≡ file_of fs ++ file_of gs
file_of_append [] gs = refl
file_of_append (f ∷ fs) gs = ap (λ bs. written f ++ bs) (file_of_append fs gs) ∙ sym (append_assoc (written f) (file_of fs) (file_of gs))

-- a row, split at one of its places
pub split_at : {X : Type 0} (xs : List X) (k : ℕ) (d : X) → k < length xs → xs ≡ take k xs ++ get_or xs k d ∷ drop (k + 1) xs
split_at xs k d h = sym (take-append-drop k xs) ∙ ap (λ ys. take k xs ++ ys) (drop_more xs k d h)

module _ (judge : Format) (fs : List Piece) (d : Piece) where
  pub in_order_at : InOrder judge fs → (k : ℕ) → k < length fs → judge (take k fs) (get_or fs k d) ≡ None
  in_order_at h k within = h (take k fs) (get_or fs k d) (drop (k + 1) fs) (split_at fs k d within)

  pub in_order_each : ((k : ℕ) → k < length fs → judge (take k fs) (get_or fs k d) ≡ None) → InOrder judge fs
  in_order_each h us f vs e =
      let front : take (length us) fs ≡ us = ap (take (length us)) e ∙ take_at us (f ∷ vs) (length us) refl in
      let here : get_or fs (length us) d ≡ f = ap (λ gs. get_or gs (length us) d) e ∙ get_or_at us f vs d (length us) refl in
      let long : length fs ≡ length us + length (f ∷ vs) = ap length e ∙ length-append us (f ∷ vs) in
      let free = h (length us) (omega arith) in
      cc
