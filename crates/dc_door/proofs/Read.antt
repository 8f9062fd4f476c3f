-- A state's words read part by part. Assumes nothing.
use Rattle.std.specs.Prelude.{Option, Some, None}
use Rattle.std.specs.Option.{unwrap_or}
use Rattle.std.proofs.lemmas.Option.{none-some}
use mathlib.Core.Path.{◌≡◌, refl, sym, ap, ◌∙◌}
use mathlib.Core.Bool.{Bool, true, false, ◌&&◌, cond}
use mathlib.Core.List.{List}
use Prim.Native.Nat.{ℕ, ◌+◌, ◌≤◌, ◌<◌}
use lib.Dec.{leb, lit<}
use lib.ListN.{length, take, drop, get_or}
use borrow.Author.Tests.{le-leb}
use Rattle.std.proofs.lemmas.List.{get_or-take, get_or-drop}
use Rattle.dc_state.specs.declared.PreprocessingConfig.{PreprocessingConfig}
use Rattle.dc_state.specs.declared.DcHighPassFilter.{DcHighPassFilter}
use Rattle.dc_door.specs.FilterState.{number_at, coefficients_at, memory_at, stage_at, config_at, filter_at, readable}
use Rattle.dc_door.specs.Inside.{config_read, held_in}

module _ (ws : List ℕ) where
  -- a stage's nine words, behind the settings and behind the other stage
  at_first : (i : ℕ) → i < 9 → get_or (take 9 (drop 6 ws)) i 0 ≡ get_or ws (6 + i) 0
  at_first i h = get_or-take 9 (drop 6 ws) i 0 h ∙ get_or-drop 6 ws i 0

  at_second : (i : ℕ) → i < 9 → get_or (take 9 (drop 9 (drop 6 ws))) i 0 ≡ get_or ws (6 + (9 + i)) 0
  at_second i h = get_or-take 9 (drop 9 (drop 6 ws)) i 0 h ∙ get_or-drop 9 (drop 6 ws) i 0 ∙ get_or-drop 6 ws (9 + i) 0

  first_stage : stage_at (take 9 (drop 6 ws)) 0 ≡ stage_at ws 6
  unfolding stage_at coefficients_at memory_at
  first_stage =
      rw (
        at_first 0 (lit< tt),
        at_first 1 (lit< tt),
        at_first 2 (lit< tt),
        at_first 3 (lit< tt),
        at_first 4 (lit< tt),
        at_first 5 (lit< tt),
        at_first 6 (lit< tt),
        at_first 7 (lit< tt),
        at_first 8 (lit< tt),
      ) refl

  second_stage : stage_at (take 9 (drop 9 (drop 6 ws))) 0 ≡ stage_at ws 15
  unfolding stage_at coefficients_at memory_at
  second_stage =
      rw (
        at_second 0 (lit< tt),
        at_second 1 (lit< tt),
        at_second 2 (lit< tt),
        at_second 3 (lit< tt),
        at_second 4 (lit< tt),
        at_second 5 (lit< tt),
        at_second 6 (lit< tt),
        at_second 7 (lit< tt),
        at_second 8 (lit< tt),
      ) refl

  bias_word : get_or (drop 9 (drop 9 (drop 6 ws))) 0 0 ≡ get_or ws 24 0
  bias_word = get_or-drop 9 (drop 9 (drop 6 ws)) 0 0 ∙ get_or-drop 9 (drop 6 ws) 9 0 ∙ get_or-drop 6 ws 18 0

  six_words : config_read (take 6 ws) ≡ config_read ws
  unfolding config_read config_at
  six_words =
      rw (
        get_or-take 6 ws 0 0 (lit< tt),
        get_or-take 6 ws 1 0 (lit< tt),
        get_or-take 6 ws 2 0 (lit< tt),
        get_or-take 6 ws 3 0 (lit< tt),
        get_or-take 6 ws 4 0 (lit< tt),
        get_or-take 6 ws 5 0 (lit< tt),
      ) refl

  pub no_flag : config_read (take 6 ws) ≡ None → None ≡ held_in ws
  unfolding config_read held_in readable
  no_flag e = go (leb 25 (length ws)) (leb (get_or ws 3 0) 1 && (leb (get_or ws 4 0) 1 && leb (get_or ws 5 0) 1)) (sym six_words ∙ e)
    where
      go : (l t : Bool) → cond t (Some (config_at ws)) None ≡ None → None ≡ cond (l && t) (Some (filter_at ws)) None
      go true true h = absurd (none-some (config_at ws) (sym h))
      go false true h = refl
      go true false h = refl
      go false false h = refl

  pub all_read : 25 ≤ length ws → (c : PreprocessingConfig) → config_read (take 6 ws) ≡ Some c
      → Some (record { config = c; first = stage_at (take 9 (drop 6 ws)) 0; second = stage_at (take 9 (drop 9 (drop 6 ws))) 0; dc_bias = number_at (drop 9 (drop 9 (drop 6 ws))) 0 }) ≡ held_in ws
  unfolding config_read held_in readable filter_at
  all_read long c e = rw (le-leb 25 (length ws) long, first_stage, second_stage, bias_word) (go (leb (get_or ws 3 0) 1 && (leb (get_or ws 4 0) 1 && leb (get_or ws 5 0) 1)) (sym six_words ∙ e))
    where
      go : (t : Bool) → cond t (Some (config_at ws)) None ≡ Some c
          → ◌≡◌ {A = Option DcHighPassFilter} (Some (record { config = c; first = stage_at ws 6; second = stage_at ws 15; dc_bias = number_at ws 24 })) (cond t (Some (record { config = config_at ws; first = stage_at ws 6; second = stage_at ws 15; dc_bias = number_at ws 24 })) None)
      go true h = ap (λ (o : Option PreprocessingConfig). Some (record { config = unwrap_or o c; first = stage_at ws 6; second = stage_at ws 15; dc_bias = number_at ws 24 })) (sym h)
      go false h = absurd (none-some c h)
