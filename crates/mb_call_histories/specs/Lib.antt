pub mod AcceptedCallLaws
pub mod CallChangeLaws
