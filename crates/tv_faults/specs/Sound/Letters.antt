-- Letters that are marked, and the keys of status items.
use Rattle.std.specs.Prelude.{◌≡◌, ◌≢◌, ℕ, ◌≤◌, ◌+◌, ◌⊎◌, Bool, false, List, flat_map, All, AllPairs, Any}
use Rattle.std.specs.Prelude.{Some, pos}
use Rattle.tv_event.specs.declared.event.Key.{Key}
use Rattle.tv_event.specs.declared.event.Key.TheVariants as keys
use Rattle.tv_model.specs.declared.node.Node.{Node}
use Rattle.tv_model.specs.declared.kind.MarkedText.{MarkedText}
use Rattle.tv_model.specs.declared.command.CommandSpec.TheVariants as commands
use Rattle.tv_model.specs.declared.desc.Desc.{Desc}
use Rattle.tv_model.specs.declared.desc.Dialog.{Dialog}
use Rattle.tv_model.specs.declared.desc.Window.{Window}
use Rattle.tv_model.specs.declared.desc.Effect.TheVariants as effects
use Rattle.tv_model.specs.Description.Heads.{window_head}
use Rattle.tv_model.specs.Description.Marks.{marked_letter}
use Rattle.tv_model.specs.Description.Letters.{marked_of}
use Rattle.tv_model.specs.Description.Numbers.{IsBetween}
use Rattle.tv_model.specs.Description.Sharing.{is_shared_by}
use Rattle.tv_faults.specs.Sound.Bodies.{Body, EachBody}

-- ---- letters

-- the text marks the letter, told in upper case
abbrev pub MarksLetter : MarkedText → ℕ → Type 0
MarksLetter text letter = marked_letter text ≡ Some letter

-- no letter is marked in both
abbrev pub MarkOtherLetters : MarkedText → MarkedText → Type 0
MarkOtherLetters text other = (letter : ℕ) → MarksLetter text letter → MarksLetter other letter → ⊥

-- the texts of the views in which a letter may be marked
abbrev pub marked_texts : List Node → List MarkedText
marked_texts views = flat_map (λ view. marked_of view.kind) views

-- no letter is marked in both, but one that is shared
abbrev pub MarkOthersUnlessShared : (ℕ → Bool) → MarkedText → MarkedText → Type 0
MarkOthersUnlessShared shared text other =
    (letter : ℕ) → shared letter ≡ false → MarksLetter text letter → MarksLetter other letter → ⊥

-- no letter is marked twice in a window or dialog, but one that views of a dialog share lawfully
abbrev pub HasOwnLetters : Body → Type 0
HasOwnLetters body =
    AllPairs (MarkOthersUnlessShared (is_shared_by body.sharing body.views)) (marked_texts body.views)

abbrev pub HaveOwnLetters : Desc → Type 0
HaveOwnLetters d = EachBody d HasOwnLetters

-- ---- keys of status items

-- A to Z
abbrev pub IsCapital : ℕ → Type 0
IsCapital ch = (65 ≤ ch) × (ch ≤ 90)

-- 0 to 9
abbrev pub IsDigit : ℕ → Type 0
IsDigit ch = (48 ≤ ch) × (ch ≤ 57)

-- F1 to F12, Ctrl with a letter other than Y, or Alt with a letter or digit
abbrev pub MayBeStatusKey : Key → Type 0
MayBeStatusKey (keys.Function n) = (1 ≤ n) × (n ≤ 12)
MayBeStatusKey (keys.Ctrl ch) = IsCapital ch × (ch ≢ 89)
MayBeStatusKey (keys.Alt ch) = IsCapital ch ⊎ IsDigit ch
MayBeStatusKey _ = ⊥

-- a view of the dialog marks the letter
abbrev pub IsShortcut : ℕ → Dialog → Type 0
IsShortcut letter dialog =
    Any (λ view. Any (λ text. MarksLetter text letter) (marked_of view.kind)) dialog.views

-- it is the digit of the window's number, 1 to 9
abbrev pub IsDigitOf : ℕ → Window → Type 0
IsDigitOf ch window = (n : ℕ) × (1 ≤ n) × (n ≤ 9) × ((window_head window).number ≡ pos n) × (ch ≡ 48 + n)

-- Alt with this character is neither a dialog's shortcut nor opens a menu nor chooses a window
pub record IsFreeWithAlt (d : Desc) (ch : ℕ) : Type 0 where
  pub dialogs : All (λ dialog. IsShortcut ch dialog → ⊥) d.dialogs
  pub menus : All (λ menu. MarksLetter menu.title ch → ⊥) d.menus
  pub windows : All (λ window. IsDigitOf ch window → ⊥) d.windows

-- the keys of status items are such as they may have, mean nothing else and differ
pub record HaveOwnKeys (d : Desc) : Type 0 where
  pub may : All (λ item. MayBeStatusKey item.key) d.status
  pub free : All (λ item. (ch : ℕ) → item.key ≡ keys.Alt ch → IsFreeWithAlt d ch) d.status
  pub apart : AllPairs (λ item other. item.key ≢ other.key) d.status

-- ---- menus, windows and the rules that `cancel` and `close` are free of

-- no letter opens two menus or chooses two items of one, no key chooses two windows, and no rule disables
-- `cancel` or `close`
pub record HaveOwnMenuLetters (d : Desc) : Type 0 where
  pub titles : AllPairs (λ menu other. MarkOtherLetters menu.title other.title) d.menus
  pub items : All (λ menu. AllPairs (λ item other. MarkOtherLetters item.text other.text) menu.items) d.menus
  pub windows : AllPairs (λ window other.
      IsBetween (pos 1) (pos 9) (window_head other).number
      → (window_head window).number ≢ (window_head other).number) d.windows
  pub cancel : All (λ dialog. All (λ rule. rule.effect ≢ effects.Enable commands.Cancel) dialog.rules)
      d.dialogs
  pub close : All (λ dialog. All (λ rule. rule.effect ≢ effects.Enable commands.Close) dialog.rules) d.dialogs
