use Rattle.std.proofs.Common.{◌≡◌, ◌+◌, ◌-◌, ◌∷◌, [], ◌++◌, take, drop, sym, ap, subst, arith, refl}
use Rattle.c_lexer.specs.Shapes.{HasShape}
use Rattle.c_lexer.specs.Reading.{Front, IsKind, names_behind}
use Rattle.c_lexer.proofs.front.Front.take.Goals as goal

-- the bytes of the token have the shape that was found
pub token_kind-requires-clause-shape : goal.token_kind-requires-clause-shape
token_kind-requires-clause-shape c =
    let n : c.self.inside.at + c.args.n - c.self.inside.at ≡ c.args.n = omega arith in
    let P : Front → Type 0 = λ f. HasShape c.args.shape (take c.args.n (drop f.at c.args.bytes.now)) in
    rw n (subst P (sym c.self.view_is) c.requires.shape)

-- the longest token with its kind leads to the place behind it
pub returns-clause-takes : goal.returns-clause-takes
returns-clause-takes c =
    let bytes = c.args.bytes.now in
    let n : c.self.inside.at + c.args.n - c.self.inside.at ≡ c.args.n = omega arith in
    let Kind : Front → Type 0 =
    λ f. IsKind c.args.unit c.args.wide c.args.words.now f.names (take c.args.n (drop f.at bytes)) c.in_ok-kind.kind in
    let Tokens : Front → Type 0 = λ f. c.push_token.new.tokens.items ≡ f.tokens
    ++ record { kind = c.in_ok-kind.kind; start = f.at; end = f.at + c.args.n } ∷ [] in
    let Named : Front → Type 0 =
    λ f. c.token_kind.new.names ≡ names_behind f.names (take c.args.n (drop f.at bytes)) c.in_ok-kind.kind in
    record {
      n = c.args.n;
      kind = c.in_ok-kind.kind;
      no_comment = c.requires.no_comment;
      longest = c.requires.longest;
      is_kind = subst Kind c.self.view_is (rw n at c.in_ok-kind.ensures.kind);
      at = ap (λ (f : Front). f.at + c.args.n) c.self.view_is;
      fresh = refl;
      tokens = subst Tokens c.self.view_is c.in-Ok.ensures;
      names = subst Named c.self.view_is (rw n at c.in_ok-kind.ensures.names);
      marks = ap (λ (f : Front). f.marks) c.self.view_is;
    }
