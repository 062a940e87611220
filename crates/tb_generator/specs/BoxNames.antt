-- The name of a box that the name of the next one is made of.
use Rattle.std.specs.Prelude.{◌≡◌, ◌≤◌, ◌<◌, ◌+◌, ◌*◌, ℕ, length, drop}
use Rattle.tb_generator.specs.declared.BoxName.{BoxName}
use Rattle.tb_generator.specs.GeneratedGalleys.{letter_number}

-- the text ends with the name of a box whose number has these tens
pub record IsBoxName (b : BoxName) : Type 0 where
  pub long : length b.text ≡ 6
  pub within : b.start ≤ 5
  pub few : b.tens ≤ 4000
  pub digit : ℕ
  pub low : digit < 10
  pub name : drop b.start b.text ≡ letter_number 98 (b.tens * 10 + digit)
