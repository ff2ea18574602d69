-- A domain of every text has the empty one.
use Rattle.std.proofs.Common.{◌≡◌, ◌≤◌, ◌≤ℤ◌, pos, [], length, inl, arith, refl, sym, subst}
use Rattle.std.proofs.lemmas.List.Elements.{All-nil}
use Rattle.tv_cells.specs.Glyph.{IsNarrow}
use Rattle.tv_valid.specs.declared.input.InputSpec.{InputSpec}
use Rattle.tv_valid.specs.declared.input.DomainSpec.TheVariants as asked
use Rattle.tv_valid.specs.declared.domain.Kind.{Kind}
use Rattle.tv_valid.specs.declared.domain.Kind.TheVariants.{Any}
use Rattle.tv_valid.specs.declared.domain.Domain.{Domain}
use Rattle.tv_valid.specs.Asking.{domain_with}
use Rattle.tv_valid.specs.Domain.{HasRoomIn, IsDomain, IsKind}
use Rattle.tv_model.specs.Kinds.InputLine.{HasAnyText, MayStand}

module _ (spec : InputSpec) (any : spec.domain ≡ asked.Any) (room : pos 0 ≤ℤ spec.max) where
  abbrev own : Domain
  own = domain_with spec Any

  own-domain : IsDomain spec own
  own-domain = record { max = refl; optional = refl; fill = refl; kind = subst (λ d. IsKind d Any) (sym any) tt }

  empty-fits : HasRoomIn own []
  empty-fits = (room, omega arith, All-nil IsNarrow)

  pub any_text : HasAnyText spec
  any_text = (own, own-domain, ([], (empty-fits, inl tt)))

  pub any_start : MayStand [] spec
  any_start = (own, own-domain, (empty-fits, tt))
