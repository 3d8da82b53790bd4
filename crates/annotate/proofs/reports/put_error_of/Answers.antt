use Rattle.annotate.specs.Reports.{IsErrorOf, NotExceeded, Exceeded}
use Rattle.annotate.proofs.Writing.{on_ok, none_of}
use Rattle.annotate.proofs.reports.put_error_of.Goals as goal

-- a constraint that is no exceeded bound gives no error
pub returns-in-None-clause-error : goal.returns-in-None-clause-error
returns-in-None-clause-error c =
    none_of c.args.scene.now c.args.out.now.items (λ s error. IsErrorOf s c.args.graph.now c.args.number error)
    (λ s shows. NotExceeded (c.in-None.ensures.none s shows))

-- the error of an exceeded bound is what is written of the constraint
pub returns-in-Some-clause-error : goal.returns-in-Some-clause-error
returns-in-Some-clause-error c = on_ok c.put_exceeded.result c.put_exceeded.ensures.error (λ put. record {
  part = λ s shows.
      let error = put.part s shows in
      record {
        text = error.text;
        added = error.added;
        is = Exceeded error.text (c.in-Some.ensures.over s shows) error.is;
      };
})
