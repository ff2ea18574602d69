-- Faults of inputs: F12 and F13.
use Rattle.std.specs.Prelude.{ℕ, Bool, false, not, ◌&&◌, ◌||◌, List}
use Rattle.std.specs.Option.{option_map_or}
use Rattle.tv_valid.specs.declared.input.InputSpec.{InputSpec}
use Rattle.tv_valid.specs.Asking.{domain_of}
use Rattle.tv_valid.specs.Deciding.{has_text, viable}
use Rattle.tv_model.specs.declared.kind.Kind.{Kind}
use Rattle.tv_model.specs.declared.kind.Kind.TheVariants as kinds
use Rattle.tv_model.specs.Faults.Starts.{starts_outside}

-- some text lies in the domain that the input asks for. A bad picture asks for none
abbrev pub any_text : InputSpec → Bool
any_text spec = option_map_or has_text (domain_of spec) false

-- the text may stand in the input while it is typed
abbrev pub may_stand : List ℕ → InputSpec → Bool
may_stand text spec = option_map_or (λ domain. viable domain text) (domain_of spec) false

-- F12: an input with a bad picture, or whose domain has no member of at most MAX characters
abbrev pub has_no_text : Kind → Bool
has_no_text (kinds.Input input) = not (any_text input.spec)
has_no_text _ = false

-- F13: an input whose start text isn't viable, where it has a domain
abbrev pub starts_unviable : Kind → Bool
starts_unviable (kinds.Input input) = any_text input.spec && not (may_stand input.start input.spec)
starts_unviable _ = false

-- F13: a start text that isn't viable, or a start item that there isn't
abbrev pub starts_badly : Kind → Bool
starts_badly kind = starts_outside kind || starts_unviable kind
