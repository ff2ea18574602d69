-- What is read of a description, and why it is refused.
use Rattle.std.specs.Prelude.{◌≢◌, ℕ, List}
use Rattle.tv_lang.specs.declared.description.LangFault.{LangFault}
use Rattle.tv_lang.specs.declared.description.LangFault.TheVariants as lang
use Rattle.tv_lang.specs.Faults.{RefusesToParse, Spells}
use Rattle.tv_model.specs.declared.desc.Desc.{Desc}
use Rattle.tv_model.specs.Faults.{IsSound}

-- the text spells the description, and it is sound
pub record IsSoundText (text : List ℕ) (d : Desc) : Type 0 where
  pub spelled : Spells text d
  pub sound : IsSound d

-- the text spells no description, for a reason of its own
abbrev pub IsNoDescription : List ℕ → LangFault → Type 0
IsNoDescription text fault = RefusesToParse text fault × (fault ≢ lang.NoMemory)
