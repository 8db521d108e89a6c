use Rattle.exec_books.proofs.Reach.{reaches}
use Rattle.exec_books.proofs.laws.a_line_reaches_only_what_it_is_about.Goals as goal

pub returns : goal.returns
returns a c w i e choice first follows = reaches c w i e choice first follows.1
