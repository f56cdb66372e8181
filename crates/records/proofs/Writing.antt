-- Writing letters: the bytes of one field, the faults of one letter, and the letters one by one.
use Rattle.std.proofs.Common.{◌≡◌, ℕ, ◌+◌, ◌-◌, ◌/◌, ◌%◌, ◌<◌, ◌≤◌, min, ltb, leb, ⊎_elim, Bool, true, false, cond, List, [], ◌∷◌, ◌++◌, map, length, get_or, take, drop, is_some, Some, None, Ok, Err, Option, Result, sym, refl, ap, ◌∙◌, ap₂, subst, arith, below_more}
use Rattle.std.specs.Option.{ok_or}
use borrow.Rule.Slice.PartMut.{mid_of, put_mid, put_same}
use Rattle.std.proofs.lemmas.List.{append_assoc, drop_at, drop-drop, drop-take, length-append, length-drop, length-take-le, map-append, take-append-drop, take_all, take_at, take_more}
use Rattle.std.proofs.lemmas.Slice.{drop-put_mid, take-put_mid}
use Rattle.std.proofs.lemmas.Bool.{cases_lt, cond_both, le-ltb, lt-ltb, ltb-false, ltb-true}
use Rattle.std.proofs.lemmas.Bool.Decides.{nat_tests}
use Rattle.fields.proofs.Fronts.{file_of_more}
use Rattle.fields.specs.Fields.{file_of, written}
use Rattle.fields.specs.Faults.{told_at}
use Rattle.fields.specs.declared.fault.At.{At}
use Rattle.fields.specs.declared.fault.Fault.{Fault}
use Rattle.fields.specs.declared.fault.File.TheVariants.{Record}
use Rattle.name_list.specs.Names.{Name, listable}
use Rattle.records.proofs.RoundTrips.{reads_back}
use Rattle.records.specs.Records.{ReadsBack, Writes, fault_at, field_in, letter_fault, record_fault, spelled}
use Rattle.nested.specs.Letters.{letter_at, letter_of, name_of}
use Rattle.nested.specs.declared.letter.Letter.{Letter}
use Rattle.nested.specs.declared.letter.NotALetter.{NotALetter}
use Rattle.nested.specs.declared.letter.Letter.TheVariants.{Call, Return, Internal}
use Rattle.records.specs.Writing.{LetterWritten, head_bytes, piece, tag_in, with_field}

-- a field's head is copied, and then its contents behind it
-- the end of a front, and what is behind the front
drop_both : (n k : ℕ) (xs : List ℕ) → n ≤ k → drop (0 + n) (take k xs) ++ drop k xs ≡ drop n xs
drop_both n k xs h =
    let is : k ≡ n + (k - n) = omega arith in
    ap₂ (λ a b. drop a (take b xs) ++ drop b xs) (omega arith) is ∙ ap₂ ◌++◌ (drop-take n (k - n) xs) (sym (drop-drop (k - n) n xs)) ∙ take-append-drop (k - n) (drop n xs)

pub field_put : (was : List ℕ) (t : ℕ) (cs head body : List ℕ) → 3 + length cs ≤ length was → head ≡ head_bytes t (length cs) → body ≡ cs → put_mid 3 (3 + length cs - 3) (put_mid 0 3 was head) body ≡ with_field was 0 (piece t cs)
field_put was t cs head body room is_head is_body =
    let end = 0 + length (written (piece t cs)) in
    let three = ap length is_head in
    let front = take-put_mid 0 3 was head 3 (omega arith) (omega arith) in
    let past = 3 + length cs - 3 in
    let headed = put_mid 0 3 was head in
    let behind : drop past (drop 3 headed) ≡ drop end was = drop-drop past 3 headed ∙ drop-put_mid 0 3 was head (3 + past) (omega arith) (omega arith) (omega arith) ∙ ap (λ n. drop n was) (omega arith) in
    ap₂ (λ a b. a ++ (body ++ b)) front behind ∙ ap₂ (λ h b. h ++ (b ++ drop end was)) is_head is_body

-- what holds of a letter of each kind holds of that of a code
letter_cases : (P : Letter → Type 0) (code : ℕ) → (code < 16 → P (Call code)) → (16 ≤ code → code < 32 → P (Return (code - 16))) → (32 ≤ code → P (Internal (code - 32))) → P (letter_of code)
letter_cases P code call return internal =
    cond_both (ltb code 16) _ _ P (λ e. call (ltb-true code 16 e)) (λ e. cond_both (ltb code 32) _ _ P (λ f. return (ltb-false code 16 e) (ltb-true code 32 f)) (λ f. internal (ltb-false code 32 f)))

some_if : (b : Bool) (k l : Letter) → cond b (Some k) None ≡ Some l → (b ≡ true) × (k ≡ l)
some_if true k l e = (refl, cc)
some_if false k l e = cc

none_if : (b : Bool) (k : Letter) → cond b (Some k) None ≡ None → b ≡ false
none_if true k e = cc
none_if false k e = refl

ok_from : (o : Option Letter) (d : NotALetter) (l : Letter) → ok_or o d ≡ Ok l → o ≡ Some l
ok_from None d l is = cc
ok_from (Some k) d l is = cc

-- what reading a code as a letter tells of it
pub letter_read : (code : ℕ) (r : Result Letter NotALetter) (l : Letter) → r ≡ ok_or (letter_at code) (record { 0 = code }) → r ≡ Ok l → letter_at code ≡ Some l
letter_read code r l value is = ok_from (letter_at code) _ l (sym value ∙ is)

-- a code up to 47 is that of a letter
pub letter_here : (code : ℕ) → code ≤ 47 → letter_at code ≡ Some (letter_of code)
letter_here code low = ap (λ b. cond b (Some (letter_of code)) None) (lt-ltb code 48 (omega arith))

no_letter : (code : ℕ) → letter_at code ≡ None → 47 < code
no_letter code none = let high = ltb-false code 48 (none_if _ _ none) in omega arith

-- what a letter's code tells of its field
pub letter_parts : (code : ℕ) (l : Letter) → letter_at code ≡ Some l → (code ≤ 47) × (tag_in l ≡ 1 + code / 16) × (name_of l ≡ code % 16)
letter_parts code l is =
    let (low, same) = some_if _ _ l is in
    let letter = ltb-true code 48 low in
    let parts = subst (λ k. (tag_in k ≡ 1 + code / 16) × (name_of k ≡ code % 16)) same (letter_cases (λ k. (tag_in k ≡ 1 + code / 16) × (name_of k ≡ code % 16)) code (λ h. (omega arith, omega arith)) (λ h k. (omega arith, omega arith)) (λ h. (omega arith, omega arith))) in
    (omega arith, parts.0, parts.1)

module _ (names : List Name) where
  -- what a letter without fault has
  letter_fits : (room used code : ℕ) → letter_fault names room used code ≡ None → (code ≤ 47) × (code % 16 < length names) × (used + length (written (field_in names code)) ≤ min room 65535)
  unfolding letter_fault
  letter_fits room used code free = (grind (arith, nat_tests), grind (arith, nat_tests), grind (arith, nat_tests))

  -- One letter, as the code judges it and writes it.
  module _ (k code : ℕ) (was : List ℕ) where
    abbrev fault : Option ℕ
    fault = letter_fault names (length was) 0 code

    module _ (at : At) (here : at ≡ record { file = Record; place = k }) where
      -- it has the fault n, which is told, and nothing is written
      abbrev Faulty : ℕ → Type 0
      Faulty n = (is_some fault ≡ true) × (Some (told_at n at) ≡ record_fault k fault) × (was ≡ was)

      faulty : (n : ℕ) → fault ≡ Some n → Faulty n
      faulty n is = (ap is_some is, ap (λ a. Some (told_at n a)) here ∙ ap (record_fault k) (sym is), refl)

      pub not_a_letter : letter_at code ≡ None → Faulty 1
      unfolding letter_fault
      not_a_letter none = let high = no_letter code none in faulty 1 (grind (arith, nat_tests))

      module _ (l : Letter) (letter : letter_at code ≡ Some l) where
        pub unlisted : length names ≤ name_of l → Faulty 19
        unfolding letter_fault
        unlisted h = let (low, tag, number) = letter_parts code l letter in faulty 19 (grind (arith, nat_tests))

        pub no_room : (name : Name) → (name_of l < length names) × (name ≡ get_or names (name_of l) []) → min (length was) 65535 < 3 + length name → Faulty 21
        unfolding letter_fault
        no_room name named h =
            let (low, tag, number) = letter_parts code l letter in
            let long = ap length (named.1 ∙ ap (λ n. get_or names n []) number) in
            faulty 21 (grind (arith, nat_tests))

    pub letter_put : (l : Letter) → letter_at code ≡ Some l → (name : Name) → (name_of l < length names) × (name ≡ get_or names (name_of l) []) → (now : List ℕ) → 3 + length name ≤ min (length was) 65535 → now ≡ with_field was 0 (piece (tag_in l) name) → LetterWritten names k code 0 was now (Ok (3 + length name))
    unfolding letter_fault
    letter_put l letter name named now fits put =
        let (low, tag, number) = letter_parts code l letter in
        let here : name ≡ get_or names (code % 16) [] = named.1 ∙ ap (λ n. get_or names n []) number in
        let long = ap length here in
        (grind (arith, nat_tests), omega arith, put ∙ ap₂ (λ t cs. with_field was 0 (piece t cs)) tag here)

  -- A letter written behind `used` bytes, into what is left of the first `room` bytes of the buffer.
  module _ (k code used room : ℕ) (now part : List ℕ) (most : room ≡ min (length now) 65535) (within : used ≤ room) where
    abbrev left : List ℕ
    left = mid_of used (room - used) now

    left_long : length left ≡ room - used
    left_long = length-take-le (room - used) (drop used now) (omega (arith, length-drop used now))

    same_fault : letter_fault names (length left) 0 code ≡ letter_fault names (length now) used code
    unfolding letter_fault
    same_fault =
        let long = left_long in
        let n = length (written (field_in names code)) in
        let room_left : ltb (min (length left) 65535) (0 + n) ≡ ltb (min (length now) 65535) (used + n) = ⊎_elim
        (λ lt. lt-ltb _ _ lt ∙ sym (lt-ltb _ _ (omega arith)))
        (λ le. le-ltb _ _ le ∙ sym (le-ltb _ _ (omega arith)))
        (cases_lt (min (length left) 65535) (0 + n)) in
        ap (λ b. cond (ltb 47 code) (Some 1) (cond (leb (length names) (code % 16)) (Some 19) (cond b (Some 21) None))) room_left

    pub letter_behind : (n : ℕ) → LetterWritten names k code 0 left part (Ok n) → LetterWritten names k code used now (put_mid used (room - used) now part) (Ok (used + n))
    letter_behind n w =
        let f = field_in names code in
        let m = length (written f) in
        let xs = drop used now in
        let long = left_long in
        let fits : m ≤ room - used = let h = (letter_fits (length left) 0 code w.0).2 in omega arith in
        let rest : drop (0 + m) left ++ drop (room - used) xs ≡ drop (used + m) now = drop_both m (room - used) xs fits ∙ drop-drop m used now in
        (sym same_fault ∙ w.0, omega (arith, w.1), ap (λ p. put_mid used (room - used) now p) w.2 ∙ ap (λ z. take used now ++ z) (append_assoc (written f) (drop (0 + m) left) (drop (room - used) xs) ∙ ap (λ z. written f ++ z) rest))

    pub none_behind : (e : Fault) → LetterWritten names k code 0 left part (Err e) → LetterWritten names k code used now (put_mid used (room - used) now part) (Err e)
    none_behind e w = (ap is_some (sym same_fault) ∙ w.0, w.1 ∙ ap (record_fault k) same_fault, ap (λ p. put_mid used (room - used) now p) w.2 ∙ put_same used (room - used) now)

  spelled_more : (codes : List ℕ) (i : ℕ) → i < length codes → spelled names (take (i + 1) codes) ≡ spelled names (take i codes) ++ written (field_in names (get_or codes i 0))
  spelled_more codes i h =
      ap (spelled names) (take_more codes i 0 h) ∙ ap file_of (map-append (field_in names) (take i codes) (get_or codes i 0 ∷ [])) ∙ file_of_more (map (field_in names) (take i codes)) (field_in names (get_or codes i 0))

  -- the first i letters stand at the front of the buffer, without fault
  pub record WrittenSoFar (codes was : List ℕ) (i used : ℕ) (now : List ℕ) : Type 0 where
    pub reached : used ≡ length (spelled names (take i codes))
    pub short : used ≤ min (length was) 65535
    pub before : (k : ℕ) → k < i → fault_at names (length was) codes k ≡ None
    pub buffer : now ≡ spelled names (take i codes) ++ drop used was

  module _ (codes was : List ℕ) where
    module _ (i used : ℕ) (now : List ℕ) (f : WrittenSoFar codes was i used now) where
      fault_here : length now ≡ length was → fault_at names (length was) codes i ≡ letter_fault names (length now) used (get_or codes i 0)
      fault_here long = ap₂ (λ room n. letter_fault names room n (get_or codes i 0)) (sym long) (sym f.reached)

      pub so_far_more : (n : ℕ) (now' : List ℕ) → i < length codes → length now ≡ length was → LetterWritten names i (get_or codes i 0) used now now' (Ok n) → WrittenSoFar codes was (i + 1) n now'
      so_far_more n now' within long w =
          let bytes = written (field_in names (get_or codes i 0)) in
          let front = spelled names (take i codes) in
          let more = spelled_more codes i within in
          let fits = (letter_fits (length now) used (get_or codes i 0) w.0).2 in
          let taken : take used now ≡ front = ap (take used) f.buffer ∙ take_at front (drop used was) used (sym f.reached) in
          let left : drop used now ≡ drop used was = ap (drop used) f.buffer ∙ drop_at front (drop used was) used (sym f.reached) in
          let behind : drop (used + length bytes) now ≡ drop n was = sym (drop-drop (length bytes) used now) ∙ ap (drop (length bytes)) left ∙ drop-drop (length bytes) used was ∙ ap (λ m. drop m was) (sym w.1) in
          record {
            reached = w.1 ∙ ap (λ m. m + length bytes) f.reached ∙ sym (ap length more ∙ length-append front bytes);
            short = omega arith;
            before = below_more _ i f.before (fault_here long ∙ w.0);
            buffer = w.2 ∙ ap₂ (λ a b. a ++ (bytes ++ b)) taken behind ∙ sym (ap (λ a. a ++ drop n was) more ∙ append_assoc front bytes (drop n was));
          }

      pub stops_here : (e : Fault) (now' : List ℕ) → i < length codes → length now ≡ length was → LetterWritten names i (get_or codes i 0) used now now' (Err e) → Writes names codes was now' (Err e)
      stops_here e now' within long w = record {
        count = i;
        before = f.before;
        buffer = w.2 ∙ f.buffer ∙ ap (λ n. spelled names (take i codes) ++ drop n was) f.reached;
        answer = (within, ap is_some (fault_here long) ∙ w.0, w.1 ∙ ap (record_fault i) (sym (fault_here long)));
      }

      module _ (end : i ≡ length codes) where
        all : take i codes ≡ codes
        all = take_all i codes (omega arith)

        pub reads_whole : listable names ≡ true → ReadsBack names codes
        reads_whole list = reads_back names codes list (λ k h. let (low, listed, fits) = letter_fits _ _ (get_or codes k 0) (f.before k (omega arith)) in (low, listed)) (let long = f.reached ∙ ap (λ cs. length (spelled names cs)) all in omega (arith, f.short))
