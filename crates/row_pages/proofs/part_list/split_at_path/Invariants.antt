use Rattle.row_pages.proofs.part_list.split_at_path.Given as goal

abbrev pub ghosts-around_blank : goal.ghosts-around_blank
ghosts-around_blank g a = record { name = a.blank.name; parts = a.blank.parts }
