-- The tables of lists and clusters.
use Rattle.std.specs.Prelude.{◌≡◌, List, [], ◌∷◌, false, Option, Some, None, codes, pos}
use Rattle.std.proofs.Common.{refl}
use Rattle.tv_event.specs.declared.event.Key.{Key}
use Rattle.tv_event.specs.declared.event.Key.TheVariants as keys
use Rattle.tv_model.specs.declared.kind.Kind.{Kind}
use Rattle.tv_model.specs.declared.kind.Kind.TheVariants as kinds
use Rattle.tv_model.specs.declared.record.Value.{Value}
use Rattle.tv_model.specs.declared.record.Value.TheVariants as values
use Rattle.tv_model.specs.Controls.Private.{Scrolled}
use Rattle.tv_model.specs.Controls.Contents.{Content}
use Rattle.tv_machine.specs.Controls.Declared.{opened_private}
use Rattle.tv_model.specs.Controls.Behaviour.{Answer, Passed, Becomes, Presses}
use Rattle.tv_machine.specs.Controls.Tables.{key_answer, down_content}

-- what a control that answers so holds
abbrev answered : Content → Answer → Content
answered c Passed = c
answered c (Becomes content) = content
answered c Presses = c

-- the values of a control after each of some keys
abbrev values_after : Kind → List Key → Content → List (Option Value)
values_after kind [] c = []
values_after kind (k ∷ ks) c = (answered c (key_answer kind k c)).value ∷ values_after kind ks (answered c (key_answer kind k c))

-- a control as its dialog opens
abbrev opened : Kind → Value → Content
opened kind value = record { value = Some value; private = opened_private kind (Some value); overwrites = false }

-- a list of three rows and five items
abbrev five : Kind
five = kinds.List (record { name = codes "l"; h = pos 3; items = codes "a" ∷ codes "b" ∷ codes "c" ∷ codes "d" ∷ codes "e" ∷ []; start = pos 1 })

-- one of three rows and two items
abbrev two : Kind
two = kinds.List (record { name = codes "l"; h = pos 3; items = codes "a" ∷ codes "b" ∷ []; start = pos 1 })

-- two check boxes without letters
abbrev boxes : Kind
boxes = kinds.CheckBoxes (record { name = codes "c"; items = record { text = codes "a"; mark = None } ∷ record { text = codes "b"; mark = None } ∷ []; start = [] })

-- the item at the end of what is shown, the next, a page back, the last, the top one
list_keys : values_after five (keys.End ∷ keys.Down ∷ keys.PageUp ∷ keys.CtrlPageDown ∷ keys.Home ∷ []) (opened five (values.Item 1))
    ≡ Some (values.Item 3) ∷ Some (values.Item 4) ∷ Some (values.Item 1) ∷ Some (values.Item 5) ∷ Some (values.Item 3) ∷ []
list_keys = refl

-- a list opens so that the chosen item is in its last row
list_opens : (opened five (values.Item 5)).private ≡ Scrolled 3
list_opens = refl

-- a row past the last item stands for that one
row_past_items : (down_content two 0 2 2 (opened two (values.Item 1))).value ≡ Some (values.Item 2)
row_past_items = refl

-- the selected item wraps, and Space flips its mark
boxes_keys : values_after boxes (keys.Up ∷ keys.Char 32 ∷ keys.Down ∷ keys.Char 32 ∷ []) (opened boxes (values.Marks 0))
    ≡ Some (values.Marks 0) ∷ Some (values.Marks 2) ∷ Some (values.Marks 2) ∷ Some (values.Marks 3) ∷ []
boxes_keys = refl
