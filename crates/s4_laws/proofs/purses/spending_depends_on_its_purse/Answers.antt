use Rattle.s4_laws.proofs.OfSpending.{budget-agree, spent_above-agree, spent_at-agree}
use Rattle.s4_laws.proofs.purses.spending_depends_on_its_purse.Goals as goal

pub returns : goal.returns
returns c = record {
  budget = budget-agree;
  above = spent_above-agree;
  spent = spent_at-agree;
}
