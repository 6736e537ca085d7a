-- `stored_list::next_line` meets its contract. Either a whole line is left, or the rest is moved and more is read; that a line
-- lies in the bytes read follows. Assumes nothing.
use Rattle.stored_list.proofs.ListLineLaws.{next_held, next_read, next_in}
use Rattle.stored_list.proofs.lines.next_line.Goals as goal

pub returns-in-Some : goal.returns-in-Some
returns-in-Some g c =
    let s = c.args in
    let xs = s.buffer.now in
    let t = next_held xs s.before c.next_start-start.result c.next_start-start.ensures c.line_from.result c.line_from.ensures c.in-Some.line c.in-Some.is in
    record { next_line = t; line_in = next_in xs s.before xs _ t }

pub returns : goal.returns
returns g c =
    let s = c.args in
    let f = c.next_start-start in
    let xs = s.buffer.now in
    let m = c.move_front-left in
    let r = c.read_line in
    let t = next_read xs s.before f.result f.ensures c.line_from.result c.line_from.ensures m.new.buffer r.new.buffer m.result r.result c.in_default.is m.ensures.value
    m.ensures.buffer_after r.ensures.first_read r.ensures.buffer_unchanged in
    record { next_line = t; line_in = next_in xs s.before r.new.buffer r.result t }
