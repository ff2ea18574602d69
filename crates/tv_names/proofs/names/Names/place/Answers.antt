use Rattle.std.proofs.Common.{ap, ◌∙◌, bytes_eq}
use Rattle.std.specs.HashMap.{get_by}
use Rattle.tv_names.proofs.FirstPlaceLemmas.{is_first, place_of}
use Rattle.tv_names.proofs.names.Names.place.Goals as goal

pub returns : goal.returns
returns c =
    is_first c.args.self.now c.args.name.now c.copied.result
    (c.copied.ensures ∙ c.get.ensures.value ∙ ap (λ name. get_by (λ key. bytes_eq name key.now) c.self.inside.places) c.as_slice.ensures
    ∙ c.self.invariant c.args.name.now ∙ ap (λ views. place_of views c.args.name.now) c.self.view_is)
