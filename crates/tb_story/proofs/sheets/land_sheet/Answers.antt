use Rattle.tb_story.proofs.sheets.land_sheet.Goals as goal

pub returns-in-Two-clause-sound : goal.returns-in-Two-clause-sound
returns-in-Two-clause-sound c n h = c.land_list-in-Two-3.ensures.sound n (c.land_list-in-Two-2.ensures.sound n (c.land_list-in-Two.ensures.sound n h))
