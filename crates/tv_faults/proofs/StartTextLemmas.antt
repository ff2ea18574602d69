-- Inputs without a domain, and start texts that were tried in the domain of their input.
use Rattle.std.proofs.Common.{◌≡◌, ◌&&◌, Bool, true, false, not, ℕ, List, sym, ap, ◌∙◌}
use Rattle.std.specs.Prelude.{Some, IsTrue}
use Rattle.std.specs.Option.{option_map_or}
use Rattle.tv_valid.specs.declared.input.InputSpec.{InputSpec}
use Rattle.tv_valid.specs.declared.domain.Domain.{Domain}
use Rattle.tv_valid.specs.Asking.{domain_of}
use Rattle.tv_valid.specs.Deciding.{has_text, viable}
use Rattle.tv_model.specs.declared.kind.Input.{Input}
use Rattle.tv_model.specs.declared.kind.Kind.TheVariants as kinds
use Rattle.tv_model.specs.Faults.Domains.{any_text, may_stand}
use Rattle.tv_faults.specs.declared.starts.StartFaults.{StartFaults}
use Rattle.tv_faults.specs.Starts.{start_faults}

-- an input has a domain with a text
pub some_text : (spec : InputSpec) (d : Domain) → (domain_of spec ≡ Some d) × IsTrue (has_text d) → any_text spec ≡ true
some_text spec d domain = ap (λ o. option_map_or has_text o false) domain.0 ∙ domain.1

-- a start text was tried in it
pub unviable : (spec : InputSpec) (start : List ℕ) (d : Domain) → (domain_of spec ≡ Some d) × IsTrue (has_text d) → not (viable d start) ≡ (any_text spec && not (may_stand start spec))
unviable spec start d domain =
    let stands : may_stand start spec ≡ viable d start = ap (λ o. option_map_or (λ e. viable e start) o false) domain.0 in
    sym (ap (λ b. any_text spec && not b) stands ∙ ap (λ b. b && not (viable d start)) (some_text spec d domain))

abbrev faults_by : Bool → Bool → StartFaults
faults_by empty bad = record { empty_domain = empty; bad_start = bad }

-- an input that has a domain
pub with_domain : (input : Input) (d : Domain) (stands : Bool) → (domain_of input.spec ≡ Some d) × IsTrue (has_text d) → stands ≡ viable d input.start
    → faults_by false (not stands) ≡ start_faults (kinds.Input input)
with_domain input d stands domain is =
    ap (λ any. faults_by (not any) (not stands)) (sym (some_text input.spec d domain))
    ∙ ap (faults_by (not (any_text input.spec))) (ap not is ∙ unviable input.spec input.start d domain)

-- an input that has none
pub without_domain : (input : Input) → any_text input.spec ≡ false → faults_by true false ≡ start_faults (kinds.Input input)
without_domain input none = ap (λ any. faults_by (not any) (any && not (may_stand input.start input.spec))) (sym none)
