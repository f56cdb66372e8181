-- Reading whole words: one letter more, the calls that stay open, and what a follower has done after some letters.
use Rattle.std.proofs.Common.{◌≡◌, ℕ, ◌+◌, ◌<◌, ◌≤◌, List, [], ◌∷◌, ◌++◌, length, get_or, take, None, Option, sym, refl, ap, ◌∙◌, ap₂, arith, below_none, below_more}
use Rattle.std.proofs.lemmas.List.{map-append, take_all, take_more}
use Rattle.std.proofs.lemmas.Bool.{eq-eqb}
use Rattle.nested.proofs.Counts.{opens, opens_call, opens_return, opens_pending, opens_internal}
use Rattle.nested.proofs.Matching.{read_append}
use Rattle.nested.specs.Automata.{Automaton}
use Rattle.nested.specs.Following.{ReadWhole, Reads, Unrefused, begun_at, follow_refusal, letter_refusal, mark_written, marks_written, places, refusal_at, stands}
use Rattle.nested.specs.Letters.{letter_of, letters}
use Rattle.nested.specs.Reading.{Config, accepted, begun, pending_returns, read, read_from, read_letter, unclosed_calls}
use Rattle.nested.specs.declared.follower.Position.{Position}
use Rattle.nested.specs.declared.letter.Letter.{Letter}
use Rattle.nested.specs.declared.letter.Letter.TheVariants.{Call, Return, Internal}
use Rattle.nested.specs.declared.mark.Mark.{Mark}
use Rattle.nested.specs.declared.standing.Standing.{Standing}

-- the letters of one code more
letters_more : (codes : List ℕ) (i : ℕ) → i < length codes → letters (take (i + 1) codes) ≡ letters (take i codes) ++ letter_of (get_or codes i 0) ∷ []
letters_more codes i h = ap letters (take_more codes i 0 h) ∙ map-append letter_of (take i codes) (get_or codes i 0 ∷ [])

module _ {S : Type 0} (A : Automaton S) where
  read_more : (w : List Letter) (l : Letter) → read A (w ++ l ∷ []) ≡ read_letter A (read A w) l
  unfolding read_from
  read_more w l = read_append A (begun A) w (l ∷ [])

  marks_more : (c : Config S) (w : List Letter) (l : Letter) (row : List (Mark S)) → marks_written A c (w ++ l ∷ []) row ≡ mark_written (read_from A c w) l (marks_written A c w row)
  unfolding read_from marks_written
  marks_more c [] l row = refl
  marks_more c (x ∷ w) l row = marks_more (read_letter A c x) w l (mark_written c x row)

  -- as many calls are open after a word as marks are left
  pub open_after : (w : List Letter) (s : S) (ms : List (Mark S)) → length (read_from A (record { state = s; marks = ms }) w).marks ≡ opens (length ms) w
  unfolding read_from
  open_after [] s ms = unfold pending_returns unclosed_calls in omega arith
  open_after (Call a ∷ w) s ms = open_after w _ (record { state = s; name = a } ∷ ms) ∙ sym (opens_call (length ms) a w)
  open_after (Return b ∷ w) s [] = open_after w _ [] ∙ sym (opens_pending b w)
  open_after (Return b ∷ w) s (m ∷ ms) = open_after w _ ms ∙ sym (opens_return (length ms) b w)
  open_after (Internal a ∷ w) s ms = open_after w _ ms ∙ sym (opens_internal (length ms) a w)

  -- What a follower has done after i codes: it started over `row₀`, and is at p over `row`.
  pub record Followed (codes : List ℕ) (row₀ : List (Mark S)) (i : ℕ) (p : Position S) (row : List (Mark S)) : Type 0 where
    pub stood : stands p row ≡ read A (letters (take i codes))
    pub taking : p.taken ≡ length (read A (letters (take i codes))).marks
    pub lent : p.row ≡ length row₀
    pub written : row ≡ marks_written A (begun A) (letters (take i codes)) row₀
    pub unrefused : Unrefused (length row₀) codes i

  module _ (codes : List ℕ) (row₀ : List (Mark S)) where
    pub followed_none : (p : Position S) → p ≡ begun_at A (length row₀) → Followed codes row₀ 0 p row₀
    unfolding read_from marks_written
    followed_none p e = record {
      stood = ap (λ q. stands q row₀) e;
      taking = ap (λ q. q.taken) e;
      lent = ap (λ q. q.row) e;
      written = refl;
      unrefused = below_none _;
    }

    module _ (i : ℕ) (p : Position S) (row : List (Mark S)) (f : Followed codes row₀ i p row) where
      -- the places that are taken are the calls that are open
      pub taken_unclosed : p.taken ≡ unclosed_calls (letters (take i codes))
      taken_unclosed = let n = open_after (letters (take i codes)) A.start [] in omega arith

      refusal_here : refusal_at (length row₀) codes i ≡ letter_refusal (places p.row) p.taken (get_or codes i 0)
      refusal_here = ap₂ (λ n t. letter_refusal (places n) t (get_or codes i 0)) (sym f.lent) (sym taken_unclosed)

      -- a follow over a row of the right length is refused as the code is
      pub refused_here : (o : Option ℕ) → length row ≡ length row₀ → follow_refusal p (length row) (get_or codes i 0) ≡ o → refusal_at (length row₀) codes i ≡ o
      refused_here o long e = refusal_here ∙ rw (eq-eqb (length row) p.row (long ∙ sym f.lent)) at e

      pub followed_more : (q : Position S) (row' : List (Mark S)) → i < length codes → length row ≡ length row₀ → follow_refusal p (length row) (get_or codes i 0) ≡ None → Reads A (letter_of (get_or codes i 0)) p row q row' → Followed codes row₀ (i + 1) q row'
      followed_more q row' within long free r =
          let l = letter_of (get_or codes i 0) in
          let w = letters (take i codes) in
          let word : letters (take (i + 1) codes) ≡ w ++ l ∷ [] = letters_more codes i within in
          let next : read_letter A (stands p row) l ≡ read A (letters (take (i + 1) codes)) = ap (λ c. read_letter A c l) f.stood ∙ sym (read_more w l) ∙ ap (read A) (sym word) in
          record {
            stood = r.stood ∙ next;
            taking = r.taking ∙ ap (λ c. length c.marks) next;
            lent = r.lent ∙ f.lent;
            written = r.written ∙ ap₂ (λ c ms. mark_written c l ms) f.stood f.written ∙ sym (marks_more (begun A) w l row₀) ∙ ap (λ v. marks_written A (begun A) v row₀) (sym word);
            unrefused = below_more _ i f.unrefused (refused_here None long free);
          }

      pub read_whole : (r : Standing) → length codes ≤ i → r.accepts ≡ A.accepts p.state → r.«open» ≡ p.taken → ReadWhole A (length row₀) codes r
      read_whole r end says count =
          let all : take i codes ≡ codes = take_all i codes end in
          let same : r.accepts ≡ accepted A (letters codes) = says ∙ ap (λ c. A.accepts c.state) f.stood ∙ ap (λ v. accepted A (letters v)) all in
          record {
            unrefused = λ k h. f.unrefused k (omega arith);
            accepts = (λ e. sym same ∙ e, λ e. same ∙ e);
            unclosed = count ∙ taken_unclosed ∙ ap (λ v. unclosed_calls (letters v)) all;
          }
