-- What is left to the program, by what each part of the run answers.
use Rattle.std.proofs.Common.{◌≡◌, ℕ, Bool, true, false, not, ◌&&◌, ◌||◌, if◌then◌else◌, Option, Some, None, is_none, is_some, refl, ap, ◌∙◌}
use Rattle.std.specs.Prelude.{pos}
use Rattle.tv_cells.specs.Layers.{is_in}
use Rattle.tv_cells.specs.declared.rect.Point.{Point}
use Rattle.tv_event.specs.declared.event.Event.TheVariants as events
use Rattle.tv_event.specs.declared.event.Key.TheVariants as keys
use Rattle.tv_model.specs.declared.desc.Desc.{Desc}
use Rattle.tv_model.specs.declared.desc.StatusItem.{StatusItem}
use Rattle.tv_model.specs.Description.Rectangles.{rect}
use Rattle.tv_machine.specs.Screen.Bars.{status_under}
use Rattle.tv_machine.specs.Session.Desktop.{window_of_digit, window_under}
use Rattle.tv_machine.specs.Session.Left.{is_alt_taken, is_down_taken, is_window_down}
use Rattle.tv_machine.specs.Session.Menu.{title_at, title_of_letter}
use Rattle.tv_machine.specs.Session.Step.{is_item_enabled, is_status_row}
use Rattle.tv_machine.specs.State.{OpenMenu, State}
use Rattle.tv_machine.proofs.ListLemmas.{bool_cases}
use Rattle.tv_menu.specs.Bar.{bar_offer, down_offered, key_offered, opening}
use Rattle.tv_menu.specs.Line.{cell_answer, line_down, line_key, turned_by}
use Rattle.tv_menu.specs.declared.offered.Offered.TheVariants as offers
use Rattle.tv_session.specs.Leaving.{is_taken}

-- ---- the status line

pub line-key-taken : (o : Option StatusItem) → is_taken (line_key o) ≡ is_some o
line-key-taken None = refl
line-key-taken (Some item) = refl

cell-taken : (d : Desc) (s : State) (o : Option StatusItem) → is_taken (cell_answer d s o) ≡ true
cell-taken d s None = refl
cell-taken d s (Some item) = bool_cases (is_item_enabled d s item) (λ b. is_taken (if b then turned_by item else offers.Taken) ≡ true) (λ on. refl) (λ off. refl)

line-down-taken : (d : Desc) (s : State) (p : Point) → is_taken (line_down d s p) ≡ (not (is_in (rect (pos 0) (pos 0) d.width d.height) p.x p.y) || is_status_row d p)
line-down-taken d s p =
    bool_cases (is_in (rect (pos 0) (pos 0) d.width d.height) p.x p.y)
    (λ b. is_taken (if not b then offers.Taken else if is_status_row d p then cell_answer d s (status_under d p.x) else offers.Left) ≡ (not b || is_status_row d p))
    (λ inside. bool_cases (is_status_row d p) (λ b. is_taken (if b then cell_answer d s (status_under d p.x) else offers.Left) ≡ b)
    (λ row. cell-taken d s (status_under d p.x)) (λ above. refl))
    (λ outside. refl)

-- ---- the bar

opening-some : (o : Option ℕ) (s : State) → is_some (opening o s) ≡ is_some o
opening-some None s = refl
opening-some (Some menu) s = refl

bar-key : (d : Desc) (s : State) (ch : ℕ) → s.menu ≡ None → is_some (bar_offer d (events.Key (keys.Alt ch)) s) ≡ is_some (title_of_letter d ch)
bar-key d s ch shut = ap (λ o. is_some (key_offered d o (keys.Alt ch) s)) shut ∙ opening-some (title_of_letter d ch) s

bar-down : (d : Desc) (s : State) (p : Point) → s.menu ≡ None → is_some (bar_offer d (events.Down p) s) ≡ is_some (title_at d p)
bar-down d s p shut = ap (λ o. is_some (down_offered d o p s)) shut ∙ opening-some (title_at d p) s

-- ---- all of them

pub alt-taken : (d : Desc) (s : State) (ch : ℕ) (titled numbered : Bool) → s.menu ≡ None → titled ≡ is_some (bar_offer d (events.Key (keys.Alt ch)) s)
    → numbered ≡ is_some (window_of_digit d s ch) → (titled || numbered) ≡ is_alt_taken d s ch
alt-taken d s ch titled numbered shut by_bar by_desk =
    ap (λ b. b || numbered) (by_bar ∙ bar-key d s ch shut) ∙ ap (λ b. is_some (title_of_letter d ch) || b) by_desk

or-regroup : (a b c e : Bool) → (((a || b) || c) || e) ≡ (a || (b || (c || e)))
or-regroup true b c e = refl
or-regroup false true c e = refl
or-regroup false false c e = refl

pub down-taken : (d : Desc) (s : State) (p : Point) (lined titled windowed : Bool) → s.menu ≡ None → lined ≡ is_taken (line_down d s p)
    → titled ≡ is_some (bar_offer d (events.Down p) s) → windowed ≡ is_window_down d s.windows (window_under d s p) p → ((lined || titled) || windowed) ≡ is_down_taken d s p
down-taken d s p lined titled windowed shut by_line by_bar by_desk =
    ap (λ b. (b || titled) || windowed) (by_line ∙ line-down-taken d s p)
    ∙ ap (λ b. ((not (is_in (rect (pos 0) (pos 0) d.width d.height) p.x p.y) || is_status_row d p) || b) || windowed) (by_bar ∙ bar-down d s p shut)
    ∙ ap (λ b. ((not (is_in (rect (pos 0) (pos 0) d.width d.height) p.x p.y) || is_status_row d p) || is_some (title_at d p)) || b) by_desk
    ∙ or-regroup (not (is_in (rect (pos 0) (pos 0) d.width d.height) p.x p.y)) (is_status_row d p) (is_some (title_at d p)) (is_window_down d s.windows (window_under d s p) p)
