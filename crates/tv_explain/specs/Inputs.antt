-- Domains and starts that can't be: F12 and F13.
use Rattle.std.specs.Prelude.{is_some, if◌then◌else◌}
use Rattle.tv_valid.specs.Asking.{domain_of}
use Rattle.tv_model.specs.declared.kind.Kind.{Kind}
use Rattle.tv_model.specs.declared.kind.Kind.TheVariants as kinds
use Rattle.tv_model.specs.Faults.Starts.{starts_outside}
use Rattle.tv_explain.specs.declared.why.Reason.{Reason}
use Rattle.tv_explain.specs.declared.why.Reason.TheVariants as reasons

-- F12: an input asks for a domain, in which then no text lies, or its picture is spelled wrong
abbrev pub domain_reason : Kind → Reason
domain_reason (kinds.Input input) =
    if is_some (domain_of input.spec) then reasons.NoText else reasons.BadPicture
domain_reason _ = reasons.Itself

-- F13: a first item that isn't there, or else a first text that can't be typed
abbrev pub start_reason : Kind → Reason
start_reason kind = if starts_outside kind then reasons.StartItem else reasons.StartText
