use Rattle.std.{proofs.Common.{◌≡◌, ◌≤◌, ◌-◌, length}, specs.Str.Lines.lines}
use Rattle.exec_text.specs.Reading.{said_before}
use Rattle.exec_text.proofs.line.Lines.next_said.Given as goal

abbrev pub invariant-loop-line : goal.invariant-loop-line
invariant-loop-line l = record {
  same_text : l.self.text.now ≡ l.fn.self.text.now;
  more : l.fn.self.number ≤ l.self.number;
  said : said_before l.fn.self.text.now l.self.number ≡ said_before l.fn.self.text.now l.fn.self.number;
}

abbrev pub decreases-loop-line : goal.decreases-loop-line
decreases-loop-line l = length (lines l.fn.self.text.now) - l.self.number
