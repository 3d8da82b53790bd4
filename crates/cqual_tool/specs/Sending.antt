-- What a sink has after a text was sent.
use Rattle.std.specs.Prelude.{◌≡◌, ◌⊎◌, ℕ, ◌+◌, List, ◌++◌, take}
use Rattle.cqual_tool.specs.declared.status.Status.{Status}
use Rattle.cqual_tool.specs.declared.status.Status.TheVariants.{WriteFault}

-- a front of the text went to the end of what was written
abbrev pub AppendsFront : List ℕ → List ℕ → List ℕ → Type 0
AppendsFront old new text = (n : ℕ) × (new ≡ old ++ take n text)

-- What was written of a text, and how many puts failed before and after, by the status that is given for it: all, or a
-- front where a put failed.
abbrev pub Sends : List ℕ → List ℕ → ℕ → ℕ → Status → List ℕ → Status → Type 0
Sends old new before now status text given =
    ((given ≡ status) × (new ≡ old ++ text) × (now ≡ before))
    ⊎ ((given ≡ WriteFault) × AppendsFront old new text × (now ≡ before + 1))
