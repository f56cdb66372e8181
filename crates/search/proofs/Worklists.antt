-- Worklists, as candidates are entered.
use Rattle.std.proofs.Common.{◌≡◌, ℕ, zero, suc, ◌+◌, ◌<◌, ◌≤◌, Bool, true, List, [], ◌∷◌, ◌++◌, refl, ap, ap₂, ◌∙◌, subst, sym, add-one, arith}
use Rattle.std.proofs.lemmas.List.{append_assoc}
use Rattle.nested.specs.Automata.{Automaton}
use Rattle.nested.specs.declared.machine.Machine as Machine
use Rattle.items.specs.declared.item.Item.{Item}
use Rattle.search.specs.Model.{Board, by_call, by_internal, by_match, by_pending, candidates, each, enter, enter_all, is_final}
use Rattle.search.specs.Worklists.{Enters, Leads, SameLoan, board_of}
use Rattle.search.specs.declared.worklist.Candidate.{Candidate}
use Rattle.search.specs.declared.worklist.Worklist.{Worklist}
use Rattle.search.proofs.Boards.{Later, after_all, all_none, gone_final, gone_more, gone_none, gone_one}
use Rattle.search.proofs.Candidates.{call_later, match_later, pending_later}
use Rattle.search.proofs.Entering.{enter_all_append}

-- lists joined, the same at each number
each_from : {X : Type 0} (from count : ℕ) (f g : ℕ → List X) → ((j : ℕ) → j < from + count → f j ≡ g j) → each from count f ≡ each from count g
unfolding each
each_from from zero f g same = refl
each_from from (suc count) f g same = ap₂ ◌++◌ (same from (omega arith)) (each_from (suc from) count f g (λ j lt. same j (omega arith)))

each_same : {X : Type 0} (count : ℕ) (f g : ℕ → List X) → ((j : ℕ) → j < count → f j ≡ g j) → each 0 count f ≡ each 0 count g
each_same count f g same = each_from 0 count f g (λ j lt. same j (omega arith))

module _ {M S : Type 0} {machine : Machine.Ghosts M S} where
  pub same_loan : (a : Worklist M S machine) → SameLoan a a
  same_loan a = record { question = refl; items = refl; makings = refl }

  pub loan_on : (a b c : Worklist M S machine) → SameLoan a b → SameLoan b c → SameLoan a c
  loan_on a b c first second = record {
    question = second.question ∙ first.question;
    items = second.items ∙ first.items;
    makings = second.makings ∙ first.makings;
  }

  -- a step from b, where b has the question of a
  pub stepped : (a b c : Worklist M S machine) (f : Automaton S → (S → S → Bool) → Board S → Board S) → SameLoan a b → Leads b c f → board_of c ≡ f (machine.meaning a.question.now) (machine.equal a.question.now) (board_of b)
  stepped a b c f loan leads = leads.board ∙ ap (λ q. f (machine.meaning q.now) (machine.equal q.now) (board_of b)) loan.question

  pub enters_later : (a b : Worklist M S machine) (f : Automaton S → (S → S → Bool) → List (Item S) → List (Candidate S)) → Enters a b f → Later (board_of a) (board_of b)
  enters_later a b f enters = after_all (machine.meaning a.question.now) (machine.equal a.question.now) (board_of a) (board_of b) (f (machine.meaning a.question.now) (machine.equal a.question.now) a.items.now) a.fitting enters.board

  module _ (a : Worklist M S machine) where
    -- what the question means, and the equality of states
    abbrev A : Automaton S
    A = machine.meaning a.question.now

    abbrev eq : S → S → Bool
    eq = machine.equal a.question.now

    -- the same candidates, told otherwise
    pub enters_as : (b : Worklist M S machine) (f g : Automaton S → (S → S → Bool) → List (Item S) → List (Candidate S)) → Enters a b f → f A eq a.items.now ≡ g A eq a.items.now → Enters a b g
    enters_as b f g enters same = record { loan = enters.loan; board = enters.board ∙ ap (enter_all A eq (board_of a)) same }

    pub enters_none : (f : Automaton S → (S → S → Bool) → List (Item S) → List (Candidate S)) → [] ≡ f A eq a.items.now → Enters a a f
    enters_none f none = enters_as a (λ A eq items. []) f (record { loan = same_loan a; board = all_none A eq (board_of a) }) none

    -- what is tried behind what was tried
    then_enters : (b c : Worklist M S machine) (f g h : Automaton S → (S → S → Bool) → List (Item S) → List (Candidate S)) → Enters a b f → Enters b c g → g A eq b.items.now ≡ h A eq a.items.now → Enters a c (λ A eq items. f A eq items ++ h A eq items)
    then_enters b c f g h first second same = record {
      loan = loan_on a b c first.loan second.loan;
      board =
          stepped a b c (λ A eq d. enter_all A eq d (g A eq d.items)) first.loan second ∙ ap (enter_all A eq (board_of b)) same ∙ ap (λ d. enter_all A eq d (h A eq a.items.now)) first.board
          ∙ sym (enter_all_append A eq (board_of a) (f A eq a.items.now) (h A eq a.items.now));
    }

    -- a loop over numbers: none yet, one more candidate, some more, and no more
    module _ (f : Automaton S → (S → S → Bool) → List (Item S) → ℕ → List (Candidate S)) where
      abbrev pub Gone : Worklist M S machine → ℕ → Type 0
      Gone b n = Enters a b (λ A eq items. each 0 n (f A eq items))

      pub gone_not : Gone a 0
      gone_not = record { loan = same_loan a; board = gone_none A eq (board_of a) (board_of a) (f A eq a.items.now) }

      module _ (b : Worklist M S machine) (n : ℕ) (gone : Gone b n) where
        pub gone_on : (c : Worklist M S machine) (x : Candidate S) → Leads b c (λ A eq d. enter A eq d x) → x ∷ [] ≡ f A eq a.items.now n → Gone c (n + 1)
        gone_on c x step is = record {
          loan = loan_on a b c gone.loan step.loan;
          board = gone_one A eq (board_of a) (board_of b) (f A eq a.items.now) n gone.board (board_of c) x (stepped a b c (λ A eq d. enter A eq d x) gone.loan step) is;
        }

        pub gone_by : (c : Worklist M S machine) (g : Automaton S → (S → S → Bool) → List (Item S) → List (Candidate S)) → Enters b c g → g A eq b.items.now ≡ f A eq a.items.now n → Gone c (n + 1)
        gone_by c g step are = record {
          loan = loan_on a b c gone.loan step.loan;
          board = gone_more A eq (board_of a) (board_of b) (f A eq a.items.now) n gone.board (board_of c) (g A eq b.items.now) (stepped a b c (λ A eq d. enter_all A eq d (g A eq d.items)) gone.loan step) are;
        }

        pub gone_all : (m : ℕ) → n ≤ m → is_final b.at.verdict ≡ true → Gone b m
        gone_all m le final = record { loan = gone.loan; board = gone_final A eq (board_of a) (board_of b) (f A eq a.items.now) n gone.board m le final }

      pub gone_to : (b : Worklist M S machine) (n m : ℕ) → Gone b n → n ≡ m → Gone b m
      gone_to b n m gone is = subst (Gone b) is gone

    -- the rules, one after the other, each on the worklist that the one before it left
    module _ (i : ℕ) (there : i < a.at.entered) (b : Worklist M S machine) (internal : Enters a b (λ A eq items. by_internal A eq items i)) where
      pub later_one : Later (board_of a) (board_of b)
      later_one = enters_later a b (λ A eq items. by_internal A eq items i) internal

      module _ (c : Worklist M S machine) (pending : Enters b c (λ A eq items. by_pending A eq items i)) where
        abbrev two_tried : Automaton S → (S → S → Bool) → List (Item S) → List (Candidate S)
        two_tried A eq items = by_internal A eq items i ++ by_pending A eq items i

        two : Enters a c two_tried
        two = then_enters b c (λ A eq items. by_internal A eq items i) (λ A eq items. by_pending A eq items i) (λ A eq items. by_pending A eq items i) internal pending (pending_later A eq (board_of a) (board_of b) later_one i there)

        pub later_two : Later (board_of a) (board_of c)
        later_two = enters_later a c two_tried two

        module _ (d : Worklist M S machine) (call : Enters c d (λ A eq items. by_call A eq items i)) where
          abbrev three_tried : Automaton S → (S → S → Bool) → List (Item S) → List (Candidate S)
          three_tried A eq items = two_tried A eq items ++ by_call A eq items i

          three : Enters a d three_tried
          three = then_enters c d two_tried (λ A eq items. by_call A eq items i) (λ A eq items. by_call A eq items i) two call (call_later A eq (board_of a) (board_of c) later_two i there)

          pub later_three : Later (board_of a) (board_of d)
          later_three = enters_later a d three_tried three

          module _ (e : Worklist M S machine) (second : Enters d e (λ A eq items. each 0 i (λ j. by_match A eq items j i))) where
            abbrev four_tried : Automaton S → (S → S → Bool) → List (Item S) → List (Candidate S)
            four_tried A eq items = three_tried A eq items ++ each 0 i (λ j. by_match A eq items j i)

            four : Enters a e four_tried
            four = then_enters d e three_tried (λ A eq items. each 0 i (λ j. by_match A eq items j i)) (λ A eq items. each 0 i (λ j. by_match A eq items j i)) three second
                (each_same i (λ j. by_match A eq d.items.now j i) (λ j. by_match A eq a.items.now j i) (λ j lt. match_later A eq (board_of a) (board_of d) later_three j i (omega arith) there))

            pub later_four : Later (board_of a) (board_of e)
            later_four = enters_later a e four_tried four

            pub all_tried : (z : Worklist M S machine) → Enters e z (λ A eq items. each 0 (i + 1) (λ j. by_match A eq items i j)) → Enters a z (λ A eq items. candidates A eq items i)
            all_tried z first = enters_as z (λ A eq items. four_tried A eq items ++ each 0 (i + 1) (λ j. by_match A eq items i j)) (λ A eq items. candidates A eq items i)
                (then_enters e z four_tried (λ A eq items. each 0 (i + 1) (λ j. by_match A eq items i j)) (λ A eq items. each 0 (i + 1) (λ j. by_match A eq items i j)) four first
                (each_same (i + 1) (λ j. by_match A eq e.items.now i j) (λ j. by_match A eq a.items.now i j) (λ j lt. match_later A eq (board_of a) (board_of e) later_four i j there (omega arith))))
                (search (append_assoc, add-one))
