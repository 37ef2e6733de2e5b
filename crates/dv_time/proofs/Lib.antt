pub mod CalendarLemmas
pub mod CrateDates
pub mod TextLemmas
pub mod TimeLemmas
