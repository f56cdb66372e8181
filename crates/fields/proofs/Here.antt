-- Whether a field stands at the front of bytes.
use Rattle.std.proofs.Common.{◌≡◌, ℕ, ◌+◌, ◌-◌, ◌*◌, ◌/◌, ◌%◌, ◌<◌, ◌≤◌, List, [], ◌∷◌, ◌++◌, length, get_or, take, drop, ap, ◌∙◌, arith}
use Rattle.std.proofs.lemmas.List.{drop-drop, length-append, length-take-le, take-append-drop}
use Rattle.fields.specs.Fields.{Cut, Piece, written}

-- bytes are cut unless three of them, with a low byte of a length, have as many behind them as the length says
pub cut_unless : (xs : List ℕ) → 0 < length xs → (3 ≤ length xs → get_or xs 2 0 < 256 → get_or xs 1 0 * 256 + get_or xs 2 0 ≤ length xs - 3 → ⊥) → Cut xs
cut_unless xs some unless = record {
  some = λ e. let n = ap length e in omega arith;
  none = λ f more e.
      let n = ap length e ∙ length-append (written f) more in
      let high = ap (λ ys. get_or ys 1 0) e in
      let low = ap (λ ys. get_or ys 2 0) e in
      unless (omega arith) (omega arith) (omega arith);
}

-- as many bytes are left as the length says
pub field_front : (xs : List ℕ) (n : ℕ) (f : Piece) → 3 ≤ length xs → get_or xs 2 0 < 256 → n ≡ get_or xs 1 0 * 256 + get_or xs 2 0 → n ≤ length xs - 3 → f.tag ≡ get_or xs 0 0 → f.contents ≡ take n (drop 3 xs) → (xs ≡ written f ++ drop (3 + n) xs) × (3 + n ≡ length (written f))
field_front [] n f some byte says fits tag contents = absurd (omega arith)
field_front (t ∷ []) n f some byte says fits tag contents = absurd (omega arith)
field_front (t ∷ (high ∷ [])) n f some byte says fits tag contents = absurd (omega arith)
field_front (t ∷ (high ∷ (low ∷ tl))) n f some byte says fits tag contents =
    let long : length f.contents ≡ n = ap length contents ∙ length-take-le n tl (omega arith) in
    let up : length f.contents / 256 ≡ high = omega arith in
    let down : length f.contents % 256 ≡ low = omega arith in
    let behind : drop n tl ≡ drop (3 + n) (t ∷ (high ∷ (low ∷ tl))) = drop-drop n 3 (t ∷ (high ∷ (low ∷ tl))) in
    let joins : take n tl ++ drop n tl ≡ tl = take-append-drop n tl in
    (cc, omega arith)
