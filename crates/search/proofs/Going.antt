-- What a search says is true, and stays so.
use Rattle.std.proofs.Common.{◌≡◌, ℕ, ◌-◌, Bool, true, take, refl, ap, ◌∙◌, subst, arith}
use Rattle.nested.specs.Automata.{Automaton}
use Rattle.items.specs.Words.{word_of}
use Rattle.search.specs.Model.{Board, is_final, places, turns_done}
use Rattle.search.specs.Promise.{FoundWord, GoesOn, Holds}
use Rattle.search.specs.Reached.{AsLeft, Lawful, Reached}
use Rattle.search.specs.declared.verdict.Verdict.{Verdict}
use Rattle.search.specs.declared.verdict.Verdict.TheVariants as verdict
use Rattle.search.proofs.Said.{ready, said_found, said_full, said_none, said_running, word_alike}
use Rattle.search.proofs.Turns.{final_stays}

-- the same search, with makings that are alike in its places
record Alike {S : Type 0} (b c : Board S) : Type 0 where
  search : c.at ≡ b.at
  makings : take (places b.at) c.makings ≡ take (places b.at) b.makings

alike_behind : {S : Type 0} (b c d : Board S) → Alike b c → Alike c d → Alike b d
alike_behind b c d one two = record {
  search = two.search ∙ one.search;
  makings = subst (λ p. take (places p) d.makings ≡ take (places p) c.makings) one.search two.makings ∙ one.makings;
}

alike_left : {S : Type 0} (b brought : Board S) → AsLeft b brought → Alike b brought
alike_left b brought left = record { search = left.search; makings = left.makings }

module _ {S : Type 0} (A : Automaton S) (eq : S → S → Bool) where
  -- a search with a final verdict does not change
  alike_going : (b c : Board S) → is_final b.at.verdict ≡ true → GoesOn A eq b c → Alike b c
  alike_going b c ended (GoesOn.here _) = record { search = refl; makings = refl }
  alike_going b c ended (GoesOn.advanced _ brought _ n left on) =
      let final = ap (λ p. is_final p.verdict) left.search ∙ ended in
      let stays = final_stays A eq n brought final in
      let behind = alike_going (turns_done A eq n brought) c (ap (λ d. is_final d.at.verdict) stays ∙ final) on in
      alike_behind b brought c (alike_left b brought left) (subst (λ d. Alike d c) stays behind)

  module _ (law : Lawful eq) (b : Board S) (r : ℕ) (reached : Reached A eq b r) where
    found_word : b.at.verdict ≡ verdict.Found → FoundWord A eq b
    found_word found =
        let (some, satisfies) = said_found A eq law b r reached found in
        let few = (ready A eq law b r reached).fits in
        let ended = ap is_final found in
        record {
          word = word_of b.makings (b.at.entered - 1);
          satisfies = satisfies;
          said = λ c on. ap (λ p. p.verdict) (alike_going b c ended on).search ∙ found;
          handed = λ c brought on left.
              let alike = alike_behind b c brought (alike_going b c ended on) (alike_left c brought left) in
              ap (λ p. word_of brought.makings (p.entered - 1)) alike.search
              ∙ word_alike brought.makings b.makings (places b.at) (b.at.entered - 1) alike.makings (omega arith);
        }

    -- whatever the verdict is
    pub holds : (v : Verdict) → b.at.verdict ≡ v → Holds A eq b r v
    holds verdict.None = said_none A eq law b r reached
    holds verdict.Found = found_word
    holds verdict.Full = said_full A eq law b r reached
    holds verdict.Running = said_running A eq law b r reached
