-- When a record fits the views of a description.
use Rattle.std.specs.Prelude.{List, All}
use Rattle.tv_model.specs.declared.node.Node.{Node}
use Rattle.tv_model.specs.Log.Record.{Entries, value_of}
use Rattle.tv_view.specs.Calls.{IsFieldValue}

-- the value that the record has for the view is one that it may have
abbrev pub FitsView : Entries → Node → Type 0
FitsView entries view = IsFieldValue view.kind (value_of entries view.id.0)

abbrev pub FitsViews : Entries → List Node → Type 0
FitsViews entries views = All (FitsView entries) views
