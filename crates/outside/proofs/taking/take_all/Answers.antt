use Rattle.std.proofs.Common.{◌≡◌, List, ℕ, [], ◌∷◌, ◌++◌, ◌∙◌, ap, sym, refl, arith, take}
use Rattle.std.proofs.lemmas.Grind.{common_steps}
use Rattle.outside.specs.Readings.{Going, Whole, Broken, stands}
use Rattle.outside.specs.declared.traits.Failed.{Failed}
use Rattle.outside.proofs.Steps.{broke, moved, ended_so, reads_one}
use Rattle.outside.proofs.taking.take_all.Goals as goal

-- a call that fails is a read fault, and leaves one broken reading
pub returns-in-Err : goal.returns-in-Err
returns-in-Err g c =
    let files = g.F.Files in
    record {
      read = (
        record { name = c.args.name.now; bytes = c.loop-buffer.taken.items; end = Broken },
        reads_one
            (stands (files.log c.args.files.now) (files.failed c.args.files.now) (files.contents c.args.files.now))
            (stands (files.log c.next.new.self) (files.failed c.next.new.self) (files.contents c.next.new.self)) _
            (broke Failed c.next.new.into (files.log c.args.files.now) (files.log c.loop-buffer.files)
            (files.log c.next.new.self) c.args.name.now c.loop-buffer.taken.items c.loop-buffer.invariant.log
            c.in-Err.field-0 c.in-Err.ensures.log) (grind arith) (grind arith) c.in-Err.ensures.agrees,
        refl,
        refl,
      );
    }

-- a call that gives nothing ends the reading, whose bytes are all that were taken
pub returns-then-count-eq0 : goal.returns-then-count-eq0
returns-then-count-eq0 g c =
    let files = g.F.Files in
    record {
      read = (
        record { name = c.args.name.now; bytes = c.loop-buffer.taken.items; end = Whole },
        reads_one
            (stands (files.log c.args.files.now) (files.failed c.args.files.now) (files.contents c.args.files.now))
            (stands (files.log c.next.new.self) (files.failed c.next.new.self) (files.contents c.next.new.self)) _
            (ended_so Failed c.next.new.into (files.log c.args.files.now) (files.log c.loop-buffer.files)
            (files.log c.next.new.self) c.args.name.now c.loop-buffer.taken.items c.loop-buffer.invariant.log
            c.in-Ok-next.count (grind arith) c.in-Ok-next.ensures.log) (grind arith)
            (grind arith) c.in-Ok-next.ensures.agrees,
        refl,
        (refl, refl, grind (arith, common_steps)),
      );
    }

-- want of memory for bytes that were given leaves a reading that is not broken
pub returns-then-is_err-2 : goal.returns-then-is_err-2
returns-then-is_err-2 g c =
    let files = g.F.Files in
    record {
      read = (
        record {
          name = c.args.name.now;
          bytes = c.loop-buffer.taken.items ++ take c.in-Ok-next.count c.next.new.into;
          end = Going;
        },
        reads_one
            (stands (files.log c.args.files.now) (files.failed c.args.files.now) (files.contents c.args.files.now))
            (stands (files.log c.next.new.self) (files.failed c.next.new.self) (files.contents c.next.new.self)) _
            (moved Failed c.next.new.into (files.log c.args.files.now) (files.log c.loop-buffer.files)
            (files.log c.next.new.self) c.args.name.now c.loop-buffer.taken.items c.loop-buffer.invariant.log
            c.in-Ok-next.count (grind arith) c.in-Ok-next.ensures.log) (grind arith)
            (grind arith) c.in-Ok-next.ensures.agrees,
        refl,
        refl,
      );
    }

-- more bytes than the limit are too large, and leave a reading that goes on
pub returns : goal.returns
returns g c =
    let files = g.F.Files in
    record {
      read = (
        record { name = c.args.name.now; bytes = c.loop-buffer.taken.items; end = Going },
        reads_one
            (stands (files.log c.args.files.now) (files.failed c.args.files.now) (files.contents c.args.files.now))
            (stands (files.log c.loop-buffer.files) (files.failed c.loop-buffer.files)
            (files.contents c.loop-buffer.files)) _ c.loop-buffer.invariant.log
            (grind arith) c.loop-buffer.invariant.contents c.loop-buffer.invariant.agrees,
        refl,
        (refl, grind (arith, common_steps)),
      );
    }

-- one more piece joins what was taken and the reading, within the limit and one
pub loop-buffer-preserved : goal.loop-buffer-preserved
loop-buffer-preserved g c =
    let new : c.extend_from_slice.new.self.items ≡ c.loop-buffer.taken.items
    ++ take c.in-Ok-next.count c.next.new.into = grind (arith, common_steps) in
    record {
      contents = grind arith;
      log = moved Failed c.next.new.into (g.F.Files.log c.args.files.now) (g.F.Files.log c.loop-buffer.files)
          (g.F.Files.log c.next.new.self) c.args.name.now
          c.loop-buffer.taken.items c.loop-buffer.invariant.log c.in-Ok-next.count
          (grind arith) c.in-Ok-next.ensures.log
          ∙ ap (λ (bytes : List ℕ). g.F.Files.log c.args.files.now
          ++ record { name = c.args.name.now; bytes = bytes; end = Going } ∷ []) (sym new);
      failed = grind arith;
      agrees = c.in-Ok-next.ensures.agrees;
      buffer = grind (arith, common_steps);
      within = grind (arith, common_steps);
    }
