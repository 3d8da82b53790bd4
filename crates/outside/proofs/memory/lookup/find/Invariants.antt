use Rattle.std.proofs.Common.{◌≡◌, drop}
use Rattle.outside.specs.Memory.{files_of, has_file}
use Rattle.outside.specs.Readings.{content_of}
use Rattle.outside.proofs.memory.lookup.find.Given as goal

-- the name has the content that it has among the files from this one on, and is there just if it is there
abbrev pub invariant-loop-i : goal.invariant-loop-i
invariant-loop-i l = record {
  content : content_of (files_of l.files) l.name ≡ content_of (files_of (drop l.i l.files)) l.name;
  has : has_file (files_of l.files) l.name ≡ has_file (files_of (drop l.i l.files)) l.name;
}
