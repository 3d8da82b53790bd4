use Rattle.std.proofs.Common.{◌≡◌, sym, ◌∙◌, ap, length, position, bytes_eq, None, Some}
use Rattle.std.proofs.lemmas.List.{length-map}
use Rattle.c_lexer.proofs.NameLemmas.{position-spellings, known-number, known-names, new-number, new-names}
use Rattle.c_lexer.proofs.names.Names.number_of.Goals as goal
use Rattle.c_lexer.proofs.names.Names.number_of.Goals.{After-new, After-new-2}

known : (c : After-new) → position (bytes_eq c.args.name.now) c.args.self.now ≡ Some c.in-Some.index
known c =
    rw (← c.self.view_is)
    (sym (position-spellings c.self.inside.spellings.keys c.args.name.now) ∙ sym c.in-Some.ensures.index)

unknown : (c : After-new-2) → position (bytes_eq c.args.name.now) c.args.self.now ≡ None
unknown c =
    rw (← c.self.view_is)
    (sym (position-spellings c.self.inside.spellings.keys c.args.name.now) ∙ sym c.in_default.ensures.index)

pub returns-in-Some-clause-number : goal.returns-in-Some-clause-number
returns-in-Some-clause-number c =
    c.new.ensures ∙ sym (known-number c.args.self.now c.args.name.now c.in-Some.index (known c))

pub returns-in-Some-clause-names : goal.returns-in-Some-clause-names
returns-in-Some-clause-names c = sym (known-names c.args.self.now c.args.name.now c.in-Some.index (known c))

pub returns-clause-number : goal.returns-clause-number
returns-clause-number c =
    c.new-2.ensures ∙ c.len-index.ensures.len ∙ sym (length-map c.self.inside.spellings.keys (λ v. v.items))
    ∙ ap length c.self.view_is ∙ sym (new-number c.args.self.now c.args.name.now (unknown c))

-- a name that was not there comes behind the others
pub returns-clause-names : goal.returns-clause-names
returns-clause-names c =
    new-names c.self.inside.spellings.keys c.insert.new.self.keys c.in_ok-spelling.spelling c.args.self.now
    c.args.name.now c.self.view_is c.in_ok-insert.ensures.keys c.in_ok-spelling.ensures.items
    (sym c.in_default.ensures.found) (unknown c)
