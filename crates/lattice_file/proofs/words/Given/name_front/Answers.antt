use Rattle.std.specs.Prelude.{is_some}
use Rattle.std.specs.Option.{option_or}
use Rattle.lattice_file.specs.declared.words.Attribute.TheVariants as attributes
use Rattle.lattice_file.specs.Steps.{if_named}
use Rattle.lattice_file.specs.Extents.{IsFront}
use Rattle.lattice_file.proofs.FrontLemmas.{front_either}
use Rattle.lattice_file.proofs.words.Given.name_front.Goals as goal

-- the front of an entry's attribute that it does not have yet is the longest of those of all five
pub returns : goal.returns
returns c =
    let given = c.args.self.now in
    let word = c.args.word.now in
    let fourth : IsFront (λ w. is_some (option_or (if_named given w attributes.Write)
    (if_named given w attributes.Deref))) word c.longer-write_or_deref.result =
    front_either (λ w. if_named given w attributes.Write)
    (λ w. if_named given w attributes.Deref) word c.front_of.result c.front_of-2.result c.longer-write_or_deref.result
    c.longer-write_or_deref.ensures.first c.longer-write_or_deref.ensures.second c.longer-write_or_deref.ensures.which
    c.front_of.ensures c.front_of-2.ensures in
    let third : IsFront (λ w. is_some (option_or (if_named given w attributes.Color) (option_or
    (if_named given w attributes.Write) (if_named given w attributes.Deref)))) word c.longer-no_level_or_sign.result =
    front_either (λ w. if_named given w attributes.Color)
    (λ w. option_or (if_named given w attributes.Write) (if_named given w attributes.Deref)) word c.front_of-3.result
    c.longer-write_or_deref.result c.longer-no_level_or_sign.result c.longer-no_level_or_sign.ensures.first
    c.longer-no_level_or_sign.ensures.second c.longer-no_level_or_sign.ensures.which c.front_of-3.ensures fourth in
    let second : IsFront (λ w. is_some
    (option_or (if_named given w attributes.Sign) (option_or (if_named given w attributes.Color) (option_or
    (if_named given w attributes.Write) (if_named given w attributes.Deref))))) word c.longer-no_level.result =
    front_either (λ w. if_named given w attributes.Sign) (λ w. option_or (if_named given w attributes.Color)
    (option_or (if_named given w attributes.Write) (if_named given w attributes.Deref))) word c.front_of-4.result
    c.longer-no_level_or_sign.result c.longer-no_level.result c.longer-no_level.ensures.first
    c.longer-no_level.ensures.second c.longer-no_level.ensures.which c.front_of-4.ensures third in
    front_either (λ w. if_named given w attributes.Level) (λ w. option_or (if_named given w attributes.Sign)
    (option_or (if_named given w attributes.Color) (option_or (if_named given w attributes.Write)
    (if_named given w attributes.Deref)))) word c.front_of-5.result c.longer-no_level.result c.longer.result
    c.longer.ensures.first c.longer.ensures.second c.longer.ensures.which c.front_of-5.ensures second
