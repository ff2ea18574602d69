-- How a leaf stands by its declaration, before any event.
use Rattle.std.specs.Prelude.{Option, Some, None}
use Rattle.tv_model.specs.declared.node.Node.{Node}
use Rattle.tv_model.specs.declared.kind.Kind.{Kind}
use Rattle.tv_model.specs.declared.record.Value.{Value}
use Rattle.tv_model.specs.Controls.Private.{Private, Plain}
use Rattle.tv_model.specs.Kinds.{behaviour}
use Rattle.tv_machine.specs.State.{LeafState}

-- the value that a field has by its declaration
abbrev pub declared_value : Kind → Option Value
declared_value kind = (behaviour kind).value

-- what a leaf keeps beside its value when its dialog opens
abbrev pub opened_private : Kind → Option Value → Private
opened_private kind value = (behaviour kind).opened value

-- a leaf as its declaration has it
abbrev pub declared_leaf : Node → LeafState
declared_leaf node = state (declared_value node.kind)
  where
    state : Option Value → LeafState
    state None = record { id = node.id; value = None; private = Plain }
    state (Some value) = record {
      id = node.id;
      value = Some value;
      private = opened_private node.kind (Some value);
    }
