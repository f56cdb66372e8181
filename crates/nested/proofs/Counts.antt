-- How many calls are open after a word that is read with some open before it.
use Rattle.std.proofs.Common.{◌≡◌, ℕ, suc, ◌+◌, ◌-◌, List, ◌∷◌, refl, arith}
use Rattle.std.proofs.lemmas.Bool.Decides.{nat_tests}
use Rattle.nested.specs.Reading.{pending_returns, unclosed_calls}
use Rattle.nested.specs.declared.letter.Letter.{Letter}
use Rattle.nested.specs.declared.letter.Letter.TheVariants.{Call, Return, Internal}

-- the pending returns of the word close calls that were open before it
abbrev pub opens : ℕ → List Letter → ℕ
opens n w = (n - pending_returns w) + unclosed_calls w

pub opens_call : (n a : ℕ) (w : List Letter) → opens n (Call a ∷ w) ≡ opens (suc n) w
unfolding pending_returns unclosed_calls
opens_call n a w = grind (arith, nat_tests)

-- a return that closes a call, and one that is pending
pub opens_return : (n b : ℕ) (w : List Letter) → opens (suc n) (Return b ∷ w) ≡ opens n w
unfolding pending_returns unclosed_calls
opens_return n b w = omega arith

pub opens_pending : (b : ℕ) (w : List Letter) → opens 0 (Return b ∷ w) ≡ opens 0 w
unfolding pending_returns unclosed_calls
opens_pending b w = omega arith

pub opens_internal : (n a : ℕ) (w : List Letter) → opens n (Internal a ∷ w) ≡ opens n w
unfolding pending_returns unclosed_calls
opens_internal n a w = refl
