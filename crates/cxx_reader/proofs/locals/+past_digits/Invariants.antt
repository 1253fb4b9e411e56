use Rattle.cxx_reader.proofs.locals.+past_digits.Given as goal

abbrev pub decreases-past_digits : goal.decreases-past_digits
decreases-past_digits l = l.n
