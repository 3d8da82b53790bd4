use Rattle.std.proofs.Common.{◌≡◌, ℕ, ◌<◌, zero, suc, List, [], ◌∷◌, drop, length, true, refl, sym, ◌∙◌, arith, get_or, string_bytes, slice_get, bytes_eq}
use Rattle.std.specs.declared.alloc.Global.{Global}
use Rattle.std.specs.declared.vec.Vec.{Vec}
use Rattle.std.specs.declared.string.String.{String}
use Rattle.outside.specs.Memory.{files_of, bytes_from}
use Rattle.outside.specs.Readings.{content_of}
use Rattle.outside.proofs.memory.lookup.find.Goals as goal

-- the file at a place holds what its name has from that place on
found : (files : List (String Global × Vec ℕ Global)) (i : ℕ) (name : List ℕ) (d : String Global × Vec ℕ Global) →
    i < length files → bytes_eq (string_bytes (get_or files i d).0) name ≡ true →
    bytes_from 0 (slice_get files i) ≡ content_of (files_of (drop i files)) name
found [] i name d l e = absurd (omega arith)
found (file ∷ files) zero name d l e = rw e refl
found (file ∷ files) (suc i) name d l e = found files i name d (omega arith) e

-- a file of the name is the first with it, so its bytes are the content of the name
pub returns-then-eq-clause-content : goal.returns-then-eq-clause-content
returns-then-eq-clause-content c =
    found c.args.files.now c.loop-i.i c.args.name.now c.index-files-i.result c.loop-i-test.true
    (rw (← c.index-files-i.is, ← c.as_str.ensures.value, ← c.eq.ensures) c.if-eq.true) ∙ sym c.loop-i.invariant.content
