use Rattle.row_pages.proofs.rows.Rows.find.Given as goal

abbrev pub ghosts-find_blank : goal.ghosts-find_blank
ghosts-find_blank a = record { name = a.blank.name; parts = a.blank.parts }
