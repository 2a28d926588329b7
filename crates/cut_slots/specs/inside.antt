-- What the private functions of cut_slots promise: no contract of a public function cites it.
pub mod Slot
