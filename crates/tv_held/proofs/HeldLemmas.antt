-- What stands at a handle, by what was opened.
use Rattle.std.proofs.Common.{◌≡◌, ◌<◌, ◌≤◌, ℕ, false, List, [], ◌∷◌, Result, Ok, Err, arith, get_or, length, refl, sym, ap, subst}
use Rattle.std.specs.Prelude.{IfErr, IfOk}
use Rattle.tv_app.specs.Opening.{RefusesOpening, StartsText}
use Rattle.tv_app.specs.Running.{Runs, Session, started}
use Rattle.tv_app.specs.declared.app.App.{App}
use Rattle.tv_app.specs.declared.fault.OpenFault.{OpenFault}
use Rattle.tv_event.specs.declared.event.Command.{Command}
use Rattle.tv_held.specs.Acting.{Act, CommandActs, Follows, Leads}
use Rattle.tv_held.specs.Asking.{CommandsIn}
use Rattle.tv_held.specs.Holding.{Begins, Holding, Holds, IsHeld, Running, Unopened, bare, unopened}
use Rattle.tv_held.specs.declared.answer.Told.{Told}
use Rattle.tv_held.specs.declared.held.Held.{Held}
use Rattle.tv_terminal.specs.Decoding.{Listening, between}

-- what was opened begins, or there is why not
pub begins : (text : List ℕ) (opened : Result App OpenFault) (l : Listening) → l ≡ between false → IfOk opened (StartsText text)
    → IfErr opened (RefusesOpening text) → (h : Holding) × Holds opened l h × Begins text h
begins text (Ok app) l none starts refuses = (Running (started starts.0) l, (starts.2, refl), ((starts.0, starts.1, refl), none))
begins text (Err fault) l none starts refuses = (Unopened fault, refl, refuses)

-- an application stands for a run, and a fault for nothing else
pub held-runs : (held : Held) (app : App) (h : Holding) → held.opened ≡ Ok app → IsHeld held h
    → (s : Session) × (h ≡ Running s held.decoder) × Runs app s
held-runs held app (Running s l) is p = let q : Runs app s × (held.decoder ≡ l) = rw is at p in (s, ap (Running s) (sym q.1), q.0)
held-runs held app (Unopened fault) is p = let q : ⊥ = rw is at p in absurd q

pub held-unopened : (held : Held) (own : OpenFault) (h : Holding) → held.opened ≡ Err own → IsHeld held h → h ≡ Unopened own
held-unopened held own (Running s l) is p = let q : ⊥ = rw is at p in absurd q
held-unopened held own (Unopened fault) is p = let q : own ≡ fault = rw is at p in ap Unopened (sym q)

module _ (act : Act) (old : Held) (h : Holding) (told : Told) (held : IsHeld old h) where
  -- nothing is made of what wasn't opened
  pub leads-unopened : (own : OpenFault) → old.opened ≡ Err own → told ≡ bare (unopened own) → Leads act h old told
  leads-unopened own is answers =
      let e = held-unopened old own h is held in
      subst (λ (x : Holding). Leads act x old told) (sym e) (Unopened own, subst (IsHeld old) e held, (refl, answers))

  -- a run goes on
  pub leads-on : (app : App) → old.opened ≡ Ok app → (x : App) (m : Listening)
      → ((s : Session) → Runs app s → (t : Session) × (k : Listening) × Runs x t × (m ≡ k) × act s old.decoder (Running t k) told)
      → Leads act h (record { opened = Ok x; decoder = m }) told
  leads-on app is x m does =
      let r = held-runs old app h is held in
      let d = does r.0 r.2 in
      subst (λ (y : Holding). Leads act y (record { opened = Ok x; decoder = m }) told) (sym r.1) (Running d.0 d.1, (d.2, d.3), d.4)

-- the command of the one byte of an input
pub commands-in : (input : List ℕ) (c : Command) (h later : Holding) (told : Told) → 1 ≤ length input → length input < 2 → c.0 ≡ get_or input 0 0
    → Follows (CommandActs c) h later told → CommandsIn input h later told
commands-in (number ∷ []) c h later told some few is p = subst (λ (n : ℕ). Follows (CommandActs (record { 0 = n })) h later told) is p
commands-in [] c h later told some few is p = absurd (omega (arith, some))
commands-in (a ∷ b ∷ rest) c h later told some few is p = absurd (omega (arith, few))
