use Rattle.row_pages.proofs.part_list.place_of.Given as goal

abbrev pub ghosts-place_blank : goal.ghosts-place_blank
ghosts-place_blank g a = record { name = a.blank.name; parts = a.blank.parts }
