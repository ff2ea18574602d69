-- Reading the lines that declare input lines.
use Rattle.std.specs.Prelude.{ℕ, ℤ, List, [], ◌∷◌, Option, Some, None, codes, if◌then◌else◌}
use Rattle.std.specs.Option.{option_map}
use Rattle.tv_valid.specs.declared.input.DomainSpec.{DomainSpec}
use Rattle.tv_valid.specs.declared.input.DomainSpec.TheVariants as domains
use Rattle.tv_model.specs.declared.node.Node.{Node}
use Rattle.tv_model.specs.declared.kind.Kind.{Kind}
use Rattle.tv_model.specs.declared.kind.Kind.TheVariants as kinds
use Rattle.tv_declarations.specs.declared.place.Position.{Position}
use Rattle.tv_declarations.specs.declared.input.Asked.{Asked}
use Rattle.tv_declarations.specs.declared.input.Options.{Options}
use Rattle.tv_words.specs.declared.word.Word.{Word}
use Rattle.tv_words.specs.Fields.{is_bare_word, name_in, text_in}
use Rattle.tv_declarations.specs.Reading.Options.{with2, with4}
use Rattle.tv_words.specs.Reading.Numbers.{number_in}
use Rattle.tv_declarations.specs.Reading.Commands.{is_next, after_next, at_end}
use Rattle.tv_declarations.specs.Reading.Places.{place_from, node_at}

-- what follows `filter`
abbrev pub filter_in : List Word → Option (DomainSpec × List Word)
filter_in [] = None
filter_in (text ∷ more) = option_map (λ text. (domains.Filter text, more)) (text_in text)

-- what follows `picture`
abbrev pub picture_in : List Word → Option (DomainSpec × List Word)
picture_in [] = None
picture_in (text ∷ more) = option_map (λ text. (domains.Picture text, more)) (text_in text)

-- what follows `range`
abbrev pub range_in : List Word → Option (DomainSpec × List Word)
range_in (least ∷ greatest ∷ more) =
    with2 (λ least greatest. (domains.Range least greatest, more)) (number_in least) (number_in greatest)
range_in _ = None

-- the domain that the first words name, and the words after them
abbrev pub domain_in : List Word → Option (DomainSpec × List Word)
domain_in [] = None
domain_in (keyword ∷ fields) =
    if is_bare_word keyword (codes "any") then Some (domains.Any, fields)
    else if is_bare_word keyword (codes "filter") then filter_in fields
    else if is_bare_word keyword (codes "range") then range_in fields
    else if is_bare_word keyword (codes "picture") then picture_in fields
    else None

-- the options of an input line, each at most once and in their order
abbrev pub options_in : List Word → Option Options
options_in ws =
    let after_validate = after_next (codes "validate") ws in
    let after_optional = after_next (codes "optional") after_validate in
    at_end (after_next (codes "fill") after_optional)
    (record {
      validates = is_next (codes "validate") ws;
      optional = is_next (codes "optional") after_validate;
      fill = is_next (codes "fill") after_optional;
    })

-- the start text and the options
abbrev pub asked_after : DomainSpec → List Word → Option Asked
asked_after domain [] = None
asked_after domain (start ∷ options) =
    with2 (λ start options. record { domain = domain; start = start; options = options }) (text_in start)
    (options_in options)

-- the start text and the options after a domain, where there is one
abbrev pub asked_from : Option (DomainSpec × List Word) → Option Asked
asked_from None = None
asked_from (Some found) = asked_after found.0 found.1

-- what follows the greatest length
abbrev pub asked_in : List Word → Option Asked
asked_in ws = asked_from (domain_in ws)

-- the input line of these
abbrev pub input_of : List ℕ → ℤ → Asked → Kind
input_of name max asked =
    kinds.Input
    (record {
      name = name;
      spec = (record {
        max = max;
        domain = asked.domain;
        optional = asked.options.optional;
        fill = asked.options.fill;
      });
      start = asked.start;
      validates = asked.options.validates;
    })

-- what follows `input`
abbrev pub input_in : Position → List Word → Option Node
input_in at (name ∷ x ∷ y ∷ w ∷ max ∷ fields) =
    with4 (λ asked name p max. node_at at p (input_of name max asked)) (asked_in fields) (name_in name)
    (place_from x y w) (number_in max)
input_in at _ = None
