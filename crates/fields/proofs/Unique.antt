-- Bytes are read in one way: no field's bytes are the front of another's, so a file admits only one outcome.
use Rattle.std.proofs.Common.{◌≡◌, ℕ, ◌/◌, ◌%◌, List, [], ◌∷◌, ◌++◌, length, take, drop, Some, None, Option, sym, refl, ap, ◌∙◌, ap₂, inl, inr, arith}
use Rattle.std.proofs.lemmas.List.{append_assoc, drop_at, take_at}
use Rattle.fields.specs.Fields.{Piece, file_of, written}
use Rattle.fields.specs.Outcomes.{Ends, Fits, Format, OneOutcome, Outcome, Stops}

-- fronts of the same length of the same list
same_fronts : (a b x y : List ℕ) → length a ≡ length b → a ++ x ≡ b ++ y → (a ≡ b) × (x ≡ y)
same_fronts a b x y l e = (
  sym (take_at a x (length b) l) ∙ ap (take (length b)) e ∙ take_at b y (length b) refl,
  sym (drop_at a x (length b) l) ∙ ap (drop (length b)) e ∙ drop_at b y (length b) refl,
)

-- no field's bytes are the front of another's
pub written_unique : (f g : Piece) (x y : List ℕ) → written f ++ x ≡ written g ++ y → (f ≡ g) × (x ≡ y)
written_unique f g x y e =
    let high : length f.contents / 256 ≡ length g.contents / 256 = cc in
    let low : length f.contents % 256 ≡ length g.contents % 256 = cc in
    let same = same_fronts f.contents g.contents x y (omega arith) (cc) in
    (ap₂ (λ t c. record { tag = t; contents = c }) (cc) same.0, same.1)

pub empty_ends : (f : Piece) (x : List ℕ) → [] ≡ written f ++ x → ⊥
empty_ends f x e = let z : ◌≡◌ {A = ℕ} 0 1 = cc in omega arith

-- a first field, and what is read behind it
record Passed (judge : Format) (bytes : List ℕ) (f : Piece) (o : Outcome) : Type 0 where
  more : List ℕ
  stands : bytes ≡ written f ++ more
  free : judge [] f ≡ None
  fits : Fits (λ us. judge (f ∷ us)) more o

-- where no field is passed
module _ (judge : Format) (bytes : List ℕ) where
  stops_here : (n : ℕ) → Ends judge [] bytes (Some n) → Stops judge [] bytes n
  stops_here n e = rw (sym e.1) at e.2

  -- bytes that end do not stop a reader
  stops_some : (n : ℕ) → Stops judge [] bytes n → bytes ≡ [] → ⊥
  stops_some n (inl c) end = c.1.some end
  stops_some n (inr s) end = empty_ends s.0 s.1 (sym end ∙ s.2)

  -- a field that stands where a reader stops has the fault
  stops_field : (n : ℕ) → Stops judge [] bytes n → (f : Piece) (more : List ℕ) → bytes ≡ written f ++ more → judge [] f ≡ Some n
  stops_field n (inl c) f more stands = absurd (c.1.none f more stands)
  stops_field n (inr s) f more stands = let same = written_unique f s.0 more s.1 (cc) in cc

  stops_once : (m n : ℕ) → Stops judge [] bytes m → Stops judge [] bytes n → m ≡ n
  stops_once m n (inl c) (inl d) = cc
  stops_once m n (inl c) (inr t) = absurd (c.1.none t.0 t.1 t.2)
  stops_once m n (inr s) t = let j = stops_field n t s.0 s.1 s.2 in cc

  ends_once : (m n : Option ℕ) → Ends judge [] bytes m → Ends judge [] bytes n → m ≡ n
  ends_once None None h k = refl
  ends_once None (Some n) h k = absurd (stops_some n (stops_here n k) h)
  ends_once (Some m) None h k = absurd (stops_some m (stops_here m h) k)
  ends_once (Some m) (Some n) h k = ap Some (stops_once m n (stops_here m h) (stops_here n k))

  -- no field is passed where a reader ends or stops
  ends_unpassed : (m : Option ℕ) (f : Piece) (o : Outcome) → Ends judge [] bytes m → Passed judge bytes f o → ⊥
  ends_unpassed None f o h p = empty_ends f p.more (sym h ∙ p.stands)
  ends_unpassed (Some n) f o h p =
      let faulty = stops_field n (stops_here n h) f p.more p.stands in
      let z : ◌≡◌ {A = ℕ} 0 1 = cc in
      omega arith

-- behind the first field
ends_past : (judge : Format) (bytes : List ℕ) (f : Piece) (fs : List Piece) (m : Option ℕ) → Ends judge (f ∷ fs) bytes m → (more : List ℕ) × (bytes ≡ written f ++ more) × Ends (λ us. judge (f ∷ us)) fs more m
ends_past judge bytes f fs None e = (file_of fs, e, refl)
ends_past judge bytes f fs (Some n) e = (file_of fs ++ e.0, e.1 ∙ append_assoc (written f) (file_of fs) e.0, (e.0, refl, e.2))

passed : (judge : Format) (bytes : List ℕ) (f : Piece) (fs : List Piece) (m : Option ℕ) → Fits judge bytes (record { fields = f ∷ fs; fault = m }) → Passed judge bytes f (record { fields = fs; fault = m })
passed judge bytes f fs m h =
    let p = ends_past judge bytes f fs m h.ends in
    record {
      more = p.0;
      stands = p.1;
      free = h.in_order [] f fs refl;
      fits = record { in_order = λ us g vs e. h.in_order (f ∷ us) g vs (cc); ends = p.2 };
    }

read_once : (judge : Format) (bytes : List ℕ) (fs gs : List Piece) (m n : Option ℕ) → Fits judge bytes (record { fields = fs; fault = m }) → Fits judge bytes (record { fields = gs; fault = n }) → (fs ≡ gs) × (m ≡ n)
read_once judge bytes [] [] m n h k = (refl, ends_once judge bytes m n h.ends k.ends)
read_once judge bytes [] (g ∷ gs) m n h k = absurd (ends_unpassed judge bytes m g _ h.ends (passed judge bytes g gs n k))
read_once judge bytes (f ∷ fs) [] m n h k = absurd (ends_unpassed judge bytes n f _ k.ends (passed judge bytes f fs m h))
read_once judge bytes (f ∷ fs) (g ∷ gs) m n h k =
    let p = passed judge bytes f fs m h in
    let q = passed judge bytes g gs n k in
    let same = written_unique g f q.more p.more (cc) in
    let more = read_once (λ us. judge (f ∷ us)) p.more fs gs m n p.fits (rw (same.1, same.0) at q.fits) in
    (cc, more.1)

pub one_outcome : (judge : Format) (bytes : List ℕ) → OneOutcome judge bytes
one_outcome judge bytes o q h k =
    let same = read_once judge bytes o.fields q.fields o.fault q.fault h k in
    ap₂ (λ fs m. record { fields = fs; fault = m }) same.0 same.1
