-- What an input line is by its kind, and its text as its dialog opens.
use Rattle.std.specs.Prelude.{ℕ, Bool, true, false, List, Option, Some, None}
use Rattle.tv_event.specs.declared.event.Key.{Key}
use Rattle.tv_event.specs.declared.event.Phase.{Phase}
use Rattle.tv_event.specs.declared.event.Phase.TheVariants as phases
use Rattle.tv_valid.specs.declared.domain.Domain.{Domain}
use Rattle.tv_valid.specs.Asking.{domain_of}
use Rattle.tv_model.specs.declared.kind.Kind.{Kind}
use Rattle.tv_model.specs.declared.kind.Kind.TheVariants as kinds
use Rattle.tv_model.specs.declared.record.Value.{Value}
use Rattle.tv_model.specs.declared.record.Value.TheVariants as values
use Rattle.tv_model.specs.Kinds.InputLine.{Edit, is_edit_key, edit_content}
use Rattle.tv_view.specs.Meaning.{Leaf}
use Rattle.tv_view.specs.Core.{Core, leaf_with}

-- the kind of an input line
abbrev pub is_input : Kind → Bool
is_input (kinds.Input input) = true
is_input _ = false

-- the domain that it asks for
abbrev pub asked_by : Kind → Option Domain
asked_by (kinds.Input input) = domain_of input.spec
asked_by _ = None

-- a text as a dialog opens with it
abbrev pub edit_opened : List ℕ → Bool → Edit
edit_opened text overwrites = record { text = text; cursor = 0; is_whole = false; overwrites = overwrites }

-- the leaf that holds an edit
abbrev pub input_leaf : Core → Edit → Leaf
input_leaf core e = leaf_with core (edit_content e)

-- the keys that it consumes: those of its table, in the focus
abbrev pub is_own_key : Phase → Key → Bool
is_own_key phases.Focused k = is_edit_key k
is_own_key _ k = false

-- the text of a value that is one
abbrev pub text_of_value : Option Value → Option (List ℕ)
text_of_value (Some (values.Text text)) = Some text
text_of_value (Some (values.Marks marks)) = None
text_of_value (Some (values.Item item)) = None
text_of_value None = None
