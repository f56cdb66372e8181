-- Fields that stand in order at the front of a file: none, one more, and the ways to stop behind them.
use Rattle.std.proofs.Common.{◌≡◌, ℕ, ◌+◌, List, [], ◌∷◌, ◌++◌, length, drop, Some, None, sym, refl, ap, ◌∙◌, inl, inr, arith}
use Rattle.std.proofs.lemmas.List.{append_assoc, append-nil, flat_map_more, length-append}
use Rattle.fields.specs.Fields.{Cut, Piece, file_of, written}
use Rattle.fields.specs.Outcomes.{Fits, Format, InOrder}

pub file_of_more : (fs : List Piece) (f : Piece) → file_of (fs ++ f ∷ []) ≡ file_of fs ++ written f
file_of_more fs f = sym (flat_map_more written [] fs f)

pub in_order_none : (judge : Format) → InOrder judge []
in_order_none judge [] f vs e = cc
in_order_none judge (u ∷ us) f vs e = cc

pub in_order_more : (judge : Format) (fs : List Piece) (f : Piece) → InOrder judge fs → judge fs f ≡ None → InOrder judge (fs ++ f ∷ [])
in_order_more judge [] f before free [] g vs e = cc
in_order_more judge [] f before free (u ∷ us) g vs e = in_order_none (λ ws. judge (u ∷ ws)) us g vs (cc)
in_order_more judge (x ∷ fs) f before free [] g vs e = before [] g fs (cc)
in_order_more judge (x ∷ fs) f before free (u ∷ us) g vs e =
    let past = in_order_more (λ ws. judge (x ∷ ws)) fs f (λ ws h zs q. before (x ∷ ws) h zs (cc)) free us g vs (cc) in
    cc

-- `fs` stand in order in front, up to `place`
pub record Front (judge : Format) (bytes : List ℕ) (place : ℕ) (fs : List Piece) : Type 0 where
  pub reached : place ≡ length (file_of fs)
  pub front : bytes ≡ file_of fs ++ drop place bytes
  pub in_order : InOrder judge fs

pub front_none : (judge : Format) (bytes : List ℕ) → Front judge bytes 0 []
front_none judge bytes = record { reached = refl; front = refl; in_order = in_order_none judge }

module _ {judge : Format} {bytes : List ℕ} {place : ℕ} {fs : List Piece} (p : Front judge bytes place fs) where
  -- the fields and what is left, named otherwise
  behind : (rest : List ℕ) → drop place bytes ≡ rest → bytes ≡ file_of fs ++ rest
  behind rest e = p.front ∙ ap (λ z. file_of fs ++ z) e

  pub front_more : (f : Piece) (next : ℕ) → next ≡ place + length (written f) → drop place bytes ≡ written f ++ drop next bytes → judge fs f ≡ None → Front judge bytes next (fs ++ f ∷ [])
  front_more f next past stands free = record {
    reached = rw (file_of_more, length-append (file_of fs) (written f)) (omega arith);
    front = rw (file_of_more, append_assoc) (behind (written f ++ drop next bytes) stands);
    in_order = in_order_more judge fs f p.in_order free;
  }

  pub front_ends : drop place bytes ≡ [] → Fits judge bytes (record { fields = fs; fault = None })
  front_ends e = record { in_order = p.in_order; ends = behind [] e ∙ append-nil (file_of fs) }

  pub front_cut : Cut (drop place bytes) → Fits judge bytes (record { fields = fs; fault = Some 10 })
  front_cut c = record { in_order = p.in_order; ends = (drop place bytes, p.front, inl (refl, c)) }

  pub front_stops : (f : Piece) (more : List ℕ) (n : ℕ) → drop place bytes ≡ written f ++ more → judge fs f ≡ Some n → Fits judge bytes (record { fields = fs; fault = Some n })
  front_stops f more n stands faulty = record { in_order = p.in_order; ends = (drop place bytes, p.front, inr (f, more, stands, faulty)) }
