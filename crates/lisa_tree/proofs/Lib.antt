pub mod Views
pub mod DepthLaws
pub mod Lists
pub mod Rising
