-- The domain that a description asks for, as a function that computes.
use Rattle.std.specs.Prelude.{Option, Some}
use Rattle.std.specs.Option.{option_map}
use Rattle.tv_picture.specs.Parsing.{picture_of}
use Rattle.tv_valid.specs.declared.input.InputSpec.{InputSpec}
use Rattle.tv_valid.specs.declared.input.DomainSpec.{DomainSpec}
use Rattle.tv_valid.specs.declared.input.DomainSpec.TheVariants as asked
use Rattle.tv_valid.specs.declared.domain.Kind.{Kind}
use Rattle.tv_valid.specs.declared.domain.Kind.TheVariants.{Any, Filter, Range, Picture}
use Rattle.tv_valid.specs.declared.domain.Domain.{Domain}

-- the kind that is asked for, or none where its picture is wrong
abbrev pub kind_of : DomainSpec → Option Kind
kind_of asked.Any = Some Any
kind_of (asked.Filter set) = Some (Filter set)
kind_of (asked.Range least greatest) = Some (Range least greatest)
kind_of (asked.Picture text) = option_map Picture (picture_of text)

-- the domain of the kind that is asked for otherwise
abbrev pub domain_with : InputSpec → Kind → Domain
domain_with spec kind = record { max = spec.max; kind = kind; optional = spec.optional; fill = spec.fill }

-- the domain that the description asks for, or none where its picture is wrong
abbrev pub domain_of : InputSpec → Option Domain
domain_of spec = option_map (domain_with spec) (kind_of spec.domain)
