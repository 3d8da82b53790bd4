use Rattle.std.proofs.Common.{◌≡◌, ◌≤◌, ◌+◌, ◌-◌, [], ◌∷◌, ◌++◌, All, IfSome, vec_len}
use Rattle.outside.specs.Readings.{Agrees, Going}
use Rattle.outside.proofs.taking.take_all.Given as goal

-- the log has one reading more, with the bytes taken so far, of which there are at most one over the limit
abbrev pub invariant-loop-buffer : goal.invariant-loop-buffer
invariant-loop-buffer g l = record {
  contents : g.F.Files.contents l.files ≡ g.F.Files.contents l.fn.files;
  log : g.F.Files.log l.files ≡ g.F.Files.log l.fn.files
      ++ record { name = l.name; bytes = l.taken.items; end = Going } ∷ [];
  failed : g.F.Files.failed l.files ≡ g.F.Files.failed l.fn.files;
  agrees : IfSome (g.F.Files.contents l.files) (λ all. All (Agrees all) (g.F.Files.log l.files));
  buffer : vec_len l.buffer ≡ 65536;
  within : vec_len l.taken ≤ l.limit + 1;
}

abbrev pub decreases-loop-buffer : goal.decreases-loop-buffer
decreases-loop-buffer g l = (l.limit + 1) - vec_len l.taken
