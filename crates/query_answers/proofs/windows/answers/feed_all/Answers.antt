use Rattle.query_answers.proofs.windows.answers.feed_all.Goals as goal

pub count_all-requires-clause-heard : goal.count_all-requires-clause-heard
count_all-requires-clause-heard g c = c.requires.heard c.if-heard.true
