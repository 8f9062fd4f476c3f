-- A chain of refusals: tests in their order, each with what it refuses by. The first that holds decides.
use Rattle.std.specs.Prelude.{Bool, cond, List, [], ◌∷◌, ℕ, Result, Ok, Err, ⊤}
use Rattle.refusals.specs.declared.Refusal.{Refusal}
use Rattle.refusals.specs.declared.Refusal.TheVariants as why

-- document 01's 'Refusal numbers'
abbrev pub number : Refusal → ℕ
number why.Rate = 1
number why.FrameDuration = 2
number why.FrameOverlap = 3
number why.PreEmphasis = 4
number why.ReleaseRatio = 5
number why.ActivationRatio = 6
number why.MinSpeechEnergy = 7
number why.NoiseSmoothing = 8
number why.EnergyFloor = 9
number why.MinSpeechFrames = 10
number why.FrameLength = 11
number why.Warmup = 12
number why.Limits = 13
number why.Window = 14
number why.Block = 15
number (why.Sample place) = 16
number why.Received = 17
number (why.Rows needed) = 18
number why.State = 19
number why.FilterRate = 20
number why.FilterCutoff = 21
number why.FilterHalfRate = 22
number why.FilterAlpha = 23
number why.FilterCoefficient = 24
number why.FilterOutput = 25
number (why.FilterOverflow place) = 26
number why.FilterState = 27

-- the sample's place with 16 and 26, the rows needed with 18
abbrev pub carries : Refusal → ℕ
carries (why.Sample place) = place
carries (why.Rows needed) = needed
carries (why.FilterOverflow place) = place
carries other = 0

-- of an answer that may be a refusal: its number, 0 where nothing was refused, and what the refusal carries
abbrev pub number_in : {A : Type 0} → Result A Refusal → ℕ
number_in (Ok x) = 0
number_in (Err r) = number r

abbrev pub carries_in : {A : Type 0} → Result A Refusal → ℕ
carries_in (Ok x) = 0
carries_in (Err r) = carries r

-- a test, and what refuses where it holds
pub record Case : Type 0 where
  pub refused : Bool
  pub by : Refusal

abbrev pub refusing : Refusal → Bool → Case
refusing r t = record { refused = t; by = r }

unfoldable pub first_of : List Case → Result ⊤ Refusal
first_of [] = Ok tt
first_of (c ∷ cs) = cond c.refused (Err c.by) (first_of cs)

-- what follows a check: a where nothing was refused, else f of the refusal
abbrev pub if_passed : {A : Type 0} → Result ⊤ Refusal → A → (Refusal → A) → A
if_passed (Ok x) a f = a
if_passed (Err r) a f = f r
