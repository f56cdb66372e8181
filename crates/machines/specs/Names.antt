-- The names machine: ok or broken, at first ok.
use Rattle.std.specs.Prelude.{◌≡◌, ℕ, ◌%◌, Bool, true, false, cond, List, ◌∷◌, ◌++◌, Decides, ◌==◌}
use Rattle.nested.specs.Automata.{Automaton}
use Rattle.nested.specs.Reading.{WellMatched, accepted}
use Rattle.nested.specs.declared.letter.Letter.{Letter}
use Rattle.nested.specs.declared.letter.Letter.TheVariants.{Call, Return}
use Rattle.machines.specs.declared.names.NamesState.{NamesState}
use Rattle.machines.specs.declared.names.NamesState.TheVariants.{Ok, Broken}

abbrev pub is_ok : NamesState → Bool
is_ok Ok = true
is_ok Broken = false

abbrev pub same_state : NamesState → NamesState → Bool
same_state Ok Ok = true
same_state Ok Broken = false
same_state Broken Ok = false
same_state Broken Broken = true

-- only ok accepts; a return breaks it where its name differs from that of its call, and nothing else alters it
abbrev pub names : Automaton NamesState
names = record {
  start = Ok;
  internal = λ s a. s;
  call = λ s a. s;
  ret = λ s t a b. cond (a == b) s Broken;
  pending = λ s b. s;
  accepts = is_ok;
}

-- Each return that closes a call has the name of that call: between a call and the return that closes it stands a well-matched word.
abbrev pub NamesAgree : List Letter → Type 0
NamesAgree w = (u v z : List Letter) (a b : ℕ) → w ≡ u ++ Call a ∷ (v ++ Return b ∷ z) → WellMatched v → a % 16 ≡ b % 16

-- what the names machine accepts
abbrev pub AcceptsAgreeing : Type 0
AcceptsAgreeing = (w : List Letter) → Decides (accepted names w) (NamesAgree w)
