use Rattle.std.proofs.Common.{◌≡◌, ◌++◌, ◌+◌, drop, map}
use Rattle.certificate_text.specs.Text.{parts_text, written}
use Rattle.certificate_text.proofs.text.put_parts.Given as goal

-- the text so far, with that of the parts from this one on, is the text of all parts
abbrev pub invariant-loop-part : goal.invariant-loop-part
invariant-loop-part l = record {
  number : l.number ≡ l.part-index + 1;
  text : l.out.items ++ parts_text l.number (map (λ part. written l.graph part) (drop l.part-index l.parts))
      ≡ l.fn.out.items ++ parts_text 1 (map (λ part. written l.graph part) l.parts);
}
