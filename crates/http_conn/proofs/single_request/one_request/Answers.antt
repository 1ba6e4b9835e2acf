use Rattle.http_conn.proofs.single_request.one_request.Goals as goal

-- the text begins with no head
pub returns-in-None-clause-none : goal.returns-in-None-clause-none
returns-in-None-clause-none c request one =
    (rw c.in-None.is at c.in_ok-first_head.ensures.none) one.first.head one.first.parsed one.first.form one.first.begins
