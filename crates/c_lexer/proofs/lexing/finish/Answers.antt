use Rattle.std.proofs.Common.{◌∙◌, ◌++◌, ◌∷◌, [], List, length, sym, ap, subst}
use Rattle.c_lexer.specs.declared.token.Token.{Token}
use Rattle.c_words.specs.declared.kinds.TokenKind.TheVariants.{End}
use Rattle.c_lexer.specs.Tokens.{Lexed, IsSpelled}
use Rattle.c_lexer.proofs.ReachLemmas.{sound-end, spells-end}
use Rattle.c_lexer.proofs.lexing.finish.Goals as goal

-- the tokens of a unit that was read to its end are sound
pub new-requires : goal.new-requires
new-requires c =
    sound-end c.args.text.0 c.args.wide c.args.words.now c.args.text.1 c.args.front c.push_token.new.tokens.items
    c.into_parts-tokens.result.1.items (length c.bytes.result.now) c.requires.small c.requires.reached c.requires.whole
    (ap length c.bytes.ensures) (c.in-Ok.ensures ∙ ap
    (λ (l : List Token). l ++ record { kind = End; start = length c.bytes.result.now; end = length c.bytes.result.now }
    ∷ []) c.into_parts-tokens.ensures.tokens) c.into_parts-tokens.ensures.marks

-- the bytes of a unit that was read to its end spell its tokens
pub returns-clause-spelled : goal.returns-clause-spelled
returns-clause-spelled c =
    let Spelled : Lexed → Type 0 = λ t. IsSpelled c.args.words.now t in
    subst Spelled (sym c.new.ensures) (
      c.args.front.names,
      spells-end c.args.text.0 c.args.wide c.args.words.now c.args.text.1 c.args.front c.push_token.new.tokens.items
          c.into_parts-tokens.result.1.items (length c.bytes.result.now) c.requires.reached c.requires.whole
          (ap length c.bytes.ensures) (c.in-Ok.ensures ∙ ap (λ (l : List Token). l
          ++ record { kind = End; start = length c.bytes.result.now; end = length c.bytes.result.now }
          ∷ []) c.into_parts-tokens.ensures.tokens) c.into_parts-tokens.ensures.marks,
    )
